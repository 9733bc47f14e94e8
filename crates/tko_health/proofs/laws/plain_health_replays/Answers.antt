use Rattle.tko_health.proofs.HealthLemmas.{tracker_replay}
use Rattle.tko_health.proofs.laws.plain_health_replays.Goals as goal

pub returns : goal.returns
returns c = tracker_replay
