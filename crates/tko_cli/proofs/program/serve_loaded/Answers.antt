use Rattle.std.proofs.Common.{◌≡◌, Err, rules}
use Rattle.tko_commands.proofs.FaultLineLemmas.{of_err}
use Rattle.tko_commands.proofs.ReasonLemmas.{told_after}
use Rattle.tko_commands.specs.declared.fault.Fault.TheVariants as fault
use Rattle.tko_cli.specs.Notices.{HasServerNotes}
use Rattle.tko_cli.specs.Serving.{IsOfOptions, ServeFails}
use Rattle.tko_cli.proofs.EndingLemmas.{fault_told, on_err_of, told_listen, told_metrics, told_why}
use Rattle.tko_cli.proofs.program.serve_loaded.Goals as goal

pub returns-in-Err-clause-fault : goal.returns-in-Err-clause-fault
returns-in-Err-clause-fault g c =
    λ is. fault_told g.O.Outlet.takes g.O.Outlet.failures g.F.Outlet
    (HasServerNotes g.F.Outlet.takes g.F.Outlet.failures c.args.options.now)
    (ServeFails g.O.Outlet.takes g.O.Outlet.failures c.args.options.now c.args.output.now c.serve.new.output)
    c.in-Err.fault c.args.output.now c.serve.new.output c.args.faults.now c.serve.new.faults c.fail.new.faults
    c.in-Err.ensures.err c.in-Err.ensures.told c.fail.ensures.fault

pub returns-in-Err-Config-clause-fault : goal.returns-in-Err-Config-clause-fault
returns-in-Err-Config-clause-fault g c =
    let cause = fault.Config c.in-Err-Config.cause in
    let fails = ServeFails g.O.Outlet.takes g.O.Outlet.failures c.args.options.now c.args.output.now c.serve.new.output in
    let is : c.serve.result ≡ Err cause = search rules in
    λ one. told_why g.O.Outlet.takes g.O.Outlet.failures g.F.Outlet
    (HasServerNotes g.F.Outlet.takes g.F.Outlet.failures c.args.options.now) fails cause
    c.args.output.now c.serve.new.output c.args.faults.now c.serve.new.faults c.refuse_config.new.faults
    (of_err fails c.serve.result cause is c.serve.ensures.err)
    (of_err (λ it. IsOfOptions it → c.serve.new.faults ≡ c.args.faults.now) c.serve.result cause is c.serve.ensures.refused tt)
    c.refuse_config.ensures.fault

pub returns-in-Err-Settings-clause-fault : goal.returns-in-Err-Settings-clause-fault
returns-in-Err-Settings-clause-fault g c =
    let cause = fault.Settings c.in-Err-Settings.outside in
    let fails = ServeFails g.O.Outlet.takes g.O.Outlet.failures c.args.options.now c.args.output.now c.serve.new.output in
    let is : c.serve.result ≡ Err cause = search rules in
    λ one. told_why g.O.Outlet.takes g.O.Outlet.failures g.F.Outlet
    (HasServerNotes g.F.Outlet.takes g.F.Outlet.failures c.args.options.now) fails cause
    c.args.output.now c.serve.new.output c.args.faults.now c.serve.new.faults c.refuse_settings.new.faults
    (of_err fails c.serve.result cause is c.serve.ensures.err)
    (of_err (λ it. IsOfOptions it → c.serve.new.faults ≡ c.args.faults.now) c.serve.result cause is c.serve.ensures.refused tt)
    c.refuse_settings.ensures.fault

pub returns-in-Err-Delays-clause-fault : goal.returns-in-Err-Delays-clause-fault
returns-in-Err-Delays-clause-fault g c =
    let cause = fault.Delays c.in-Err-Delays.delays in
    let fails = ServeFails g.O.Outlet.takes g.O.Outlet.failures c.args.options.now c.args.output.now c.serve.new.output in
    let is : c.serve.result ≡ Err cause = search rules in
    λ one. told_why g.O.Outlet.takes g.O.Outlet.failures g.F.Outlet
    (HasServerNotes g.F.Outlet.takes g.F.Outlet.failures c.args.options.now) fails cause
    c.args.output.now c.serve.new.output c.args.faults.now c.serve.new.faults c.refuse_delays.new.faults
    (of_err fails c.serve.result cause is c.serve.ensures.err)
    (of_err (λ it. IsOfOptions it → c.serve.new.faults ≡ c.args.faults.now) c.serve.result cause is c.serve.ensures.refused tt)
    c.refuse_delays.ensures.fault

pub returns-in-Err-Listen-clause-fault : goal.returns-in-Err-Listen-clause-fault
returns-in-Err-Listen-clause-fault g c =
    let cause = fault.Listen c.in-Err-Listen.cause in
    let fails = ServeFails g.O.Outlet.takes g.O.Outlet.failures c.args.options.now c.args.output.now c.serve.new.output in
    let noted = HasServerNotes g.F.Outlet.takes g.F.Outlet.failures c.args.options.now in
    let is : c.serve.result ≡ Err cause = search rules in
    let failed : fails cause = of_err fails c.serve.result cause is c.serve.ensures.err in
    λ one. told_listen g.O.Outlet.takes g.O.Outlet.failures g.F.Outlet noted fails c.in-Err-Listen.cause
    c.args.output.now c.serve.new.output c.args.faults.now c.serve.new.faults c.refuse_listen.new.faults
    failed failed.1 (on_err_of c.serve.result cause is c.serve.ensures.told)
    (of_err (λ it. IsOfOptions it → c.serve.new.faults ≡ c.args.faults.now) c.serve.result cause is c.serve.ensures.refused)
    (told_after g.F.Outlet.takes g.F.Outlet.failures _ cause
    c.serve.new.faults c.refuse_listen.new.faults (λ line is. (_, is)) c.refuse_listen.ensures.fault)

pub returns-in-Err-Metrics-clause-fault : goal.returns-in-Err-Metrics-clause-fault
returns-in-Err-Metrics-clause-fault g c =
    let cause = fault.Metrics c.in-Err-Metrics.cause in
    let fails = ServeFails g.O.Outlet.takes g.O.Outlet.failures c.args.options.now c.args.output.now c.serve.new.output in
    let noted = HasServerNotes g.F.Outlet.takes g.F.Outlet.failures c.args.options.now in
    let is : c.serve.result ≡ Err cause = search rules in
    let failed : fails cause = of_err fails c.serve.result cause is c.serve.ensures.err in
    λ one. told_metrics g.O.Outlet.takes g.O.Outlet.failures g.F.Outlet noted fails c.in-Err-Metrics.cause
    c.args.output.now c.serve.new.output c.args.faults.now c.serve.new.faults c.refuse_metrics.new.faults
    failed failed.1 (on_err_of c.serve.result cause is c.serve.ensures.told)
    (of_err (λ it. IsOfOptions it → c.serve.new.faults ≡ c.args.faults.now) c.serve.result cause is c.serve.ensures.refused)
    (told_after g.F.Outlet.takes g.F.Outlet.failures _ cause
    c.serve.new.faults c.refuse_metrics.new.faults (λ line is. (_, is)) c.refuse_metrics.ensures.fault)
