use Rattle.std.proofs.Common.{refl, subst, sym}
use Rattle.tko_client.specs.Answerings.{IsClientIdle}
use Rattle.tko_client.specs.Calls.{IsCalled}
use Rattle.tko_client.specs.declared.calls.Went.TheVariants.{Short}
use Rattle.tko_client.specs.Steps.{client_ghosts}
use Rattle.tko_client.proofs.HandedLemmas.{handed_called}
use Rattle.tko_client.proofs.CalledLemmas.{session_called, session_short}
use Rattle.tko_client.proofs.going.call_session.Goals as goal

pub returns-in-Some : goal.returns-in-Some
returns-in-Some g c =
    handed_called (client_ghosts {C = g.row.C.Denot} g.H.Health g.T.Trails) g.H.Health.servers
    c.in-Some.went c.args.it.now c.hand_over.new.it c.args.parts.now c.requires.ready
    c.requires.idle
    c.in-Some.ensures.handed

pub returns-in-Ok : goal.returns-in-Ok
returns-in-Ok g c =
    let same = c.in_default.ensures.none in
    let ghosts = client_ghosts {C = g.row.C.Denot} g.H.Health g.T.Trails in
    subst (λ old. IsCalled ghosts g.H.Health.servers c.in-Ok.went (old, c.args.parts.now) (
      record c.hand_over.new.it { session = c.go_once.new.session; told = c.go_once.new.told },
      c.go_once.new.parts,
    )) same
    (session_called ghosts g.H.Health.servers c.in-Ok.went c.hand_over.new.it
    (record c.hand_over.new.it { session = c.go_once.new.session; told = c.go_once.new.told })
    c.args.parts.now c.go_once.new.parts (subst IsClientIdle (sym same) c.requires.idle) refl
    c.in-Ok.ensures.ok c.in-Ok.ensures.stands c.go_once.ensures.left)

pub returns-in-Err : goal.returns-in-Err
returns-in-Err g c =
    let same = c.in_default.ensures.none in
    let ghosts = client_ghosts {C = g.row.C.Denot} g.H.Health g.T.Trails in
    subst (λ old. IsCalled ghosts g.H.Health.servers Short (old, c.args.parts.now) (
      record c.hand_over.new.it { session = c.go_once.new.session; told = c.go_once.new.told },
      c.go_once.new.parts,
    )) same
    (session_short ghosts g.H.Health.servers c.hand_over.new.it
    (record c.hand_over.new.it { session = c.go_once.new.session; told = c.go_once.new.told })
    c.args.parts.now c.go_once.new.parts (subst IsClientIdle (sym same) c.requires.idle) refl
    c.in-Err.ensures.err c.go_once.ensures.left.stays)
