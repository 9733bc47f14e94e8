use Rattle.std.proofs.Common.{◌≡◌, refl, sym, ap, ◌∙◌, inl, inr}
use Rattle.tko_prober.specs.declared.prober.Prober.{Prober}
use Rattle.tko_prober.specs.Probes.{sent}
use Rattle.tko_prober.specs.declared.probers.ProbeSlot.TheVariants.{Probing}
use Rattle.tko_prober.specs.Probers.{ProbersState, with_slot}
use Rattle.tko_prober.proofs.HalfLemmas.{put_after, put_back, rest_is_send}
use Rattle.tko_prober.proofs.backend.Backend.due.Goals as goal

pub returns-in_default-duty-clause-passed : goal.returns-in_default-duty-clause-passed
returns-in_default-duty-clause-passed g c = inr (inl (record {
  prober = c.in-Some.prober;
  has = sym c.in-Some.ensures.prober;
  refused = c.in_default-duty.ensures.none;
  others = ap (λ (p : ProbersState). record c.args.self.now { health = c.duty.new.self; probers = p }) c.in-Some.ensures.slot;
}))

pub returns-in-Send-clause-sent : goal.returns-in-Send-clause-sent
returns-in-Send-clause-sent g c =
    let (names, same) = c.in-Some-duty.ensures.some in
    let turned : c.turn-turn.new.self ≡ sent c.in-Some.prober = c.in-Send.ensures.send refl in
    let put =
    put_after c.args.self.now.probers _ _ c.args.server (Probing c.turn-turn.new.self) c.in-Some.ensures.slot c.put.ensures
    ∙ ap (λ (it : Prober). with_slot c.args.self.now.probers c.args.server (Probing it)) turned in
    record {
      prober = c.in-Some.prober;
      has = sym c.in-Some.ensures.prober;
      due = c.in-Send.ensures.when.0 refl;
      right = c.in-Some-duty.ensures.right;
      others = rw (same, put) refl;
    }

pub returns-in-Rest-clause-passed : goal.returns-in-Rest-clause-passed
returns-in-Rest-clause-passed g c =
    let (names, same) = c.in-Some-duty.ensures.some in
    let turned : c.turn-turn.new.self ≡ c.in-Some.prober = c.in-Rest.ensures.rest refl in
    let put =
    put_after c.args.self.now.probers _ _ c.args.server (Probing c.turn-turn.new.self) c.in-Some.ensures.slot c.put.ensures
    ∙ ap (λ (it : Prober). with_slot c.args.self.now.probers c.args.server (Probing it)) turned in
    let back = put_back c.args.self.now.probers _ c.args.server c.in-Some.prober (sym c.in-Some.ensures.prober) put in
    inr (inr (record {
      prober = c.in-Some.prober;
      has = sym c.in-Some.ensures.prober;
      right = c.in-Some-duty.ensures.right;
      early = λ due. rest_is_send (c.in-Rest.ensures.when.1 due);
      same = rw (same, back) refl;
    }))
