use Rattle.std.proofs.Common.{refl}
use Rattle.tko_reply.proofs.AskingLemmas.{begins_keyed, begins_quit, begins_status, begins_version}
use Rattle.tko_reply.proofs.AskingLemmas.{cut_status, is_keyed}
use Rattle.tko_reply.proofs.ResultLemmas.{on_err}
use Rattle.tko_reply.proofs.asking.OneKey.first.Goals as goal

pub returns-in_err-append_status-in-StatsTko-clause-cut :
    goal.returns-in_err-append_status-in-StatsTko-clause-cut
returns-in_err-append_status-in-StatsTko-clause-cut g c =
    on_err _ (cut_status c.in-StatsTko.is
    (rw c.addresses.ensures at c.in_err-append_status-in-StatsTko.ensures.cut))

pub split-requires : goal.split-requires
split-requires g c = record {
  whole = c.requires.whole;
  keyed = is_keyed c.args.self.now.request c.in_default.not-Version c.in_default.not-Quit
      c.in_default.not-StatsTko;
}

pub returns-in_ok-append-in-Version-clause-ok : goal.returns-in_ok-append-in-Version-clause-ok
returns-in_ok-append-in-Version-clause-ok g c =
    begins_version c.args.health.now c.in-Version.is c.in_ok-append-in-Version.ensures.ok

pub returns-in-Quit-clause-ok : goal.returns-in-Quit-clause-ok
returns-in-Quit-clause-ok g c = begins_quit c.args.health.now c.in-Quit.is

pub returns-in_ok-append_status-in-StatsTko-clause-ok :
    goal.returns-in_ok-append_status-in-StatsTko-clause-ok
returns-in_ok-append_status-in-StatsTko-clause-ok g c =
    begins_status c.in-StatsTko.is
    (rw c.addresses.ensures at c.in_ok-append_status-in-StatsTko.ensures.ok)

pub returns-in_ok-split-in_default : goal.returns-in_ok-split-in_default
returns-in_ok-split-in_default g c = record {
  ok = begins_keyed c.args.health.now c.len.ensures c.in_ok-split-in_default.ensures;
  err = tt;
  cut = tt;
  servers = refl;
}
