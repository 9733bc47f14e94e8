use Rattle.std.proofs.Common.{rules, refl, sym, ap}
use Rattle.tko_prober.specs.declared.probers.ProbeSlot.TheVariants.{Probing}
use Rattle.tko_prober.specs.Probers.{ProbersState}
use Rattle.tko_prober.proofs.HalfLemmas.{one_prober, put_after, put_back, result_taken}
use Rattle.tko_prober.proofs.backend.Backend.came.Goals as goal

pub returns-then-not-is_out-clause-none : goal.returns-then-not-is_out-clause-none
returns-then-not-is_out-clause-none g c =
    let put = put_after c.args.self.now.probers _ _ c.args.server (Probing c.in-Some.prober) c.in-Some.ensures.slot c.put.ensures in
    let back = put_back c.args.self.now.probers _ c.args.server c.in-Some.prober (sym c.in-Some.ensures.prober) put in
    λ none. (refl, ap (λ (p : ProbersState). record c.args.self.now { probers = p }) back)

pub returns-clause-result : goal.returns-clause-result
returns-clause-result g c =
    let put = put_after c.args.self.now.probers _ _ c.args.server c.take_result-asked.result.1 c.in-Some.ensures.slot c.put-2.ensures in
    λ prober out.
    let own = one_prober c.args.self.now.probers c.args.server c.in-Some.prober prober (sym c.in-Some.ensures.prober) out.has in
    result_taken c.args.moment c.args.self.now c.args.server c.in-Some.prober prober c.args.probed
    c.record_asked.result c.take_result-asked.result.0 c.take_result-asked.result.1 c.record_asked.new.health c.put-2.new.self
    own c.take_result-asked.ensures.asked c.take_result-asked.ensures.slot put c.record_asked.ensures.recorded

pub returns-clause-none : goal.returns-clause-none
returns-clause-none g c =
    λ none. absurd (none c.in-Some.prober (record { has = sym c.in-Some.ensures.prober; out = search rules }))
