use Rattle.tko_links.proofs.ScriptedLemmas.{script_replay}
use Rattle.tko_links.proofs.laws.scripted_replays.Goals as goal

pub returns : goal.returns
returns c = script_replay
