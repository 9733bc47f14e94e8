use Rattle.std.proofs.Common.{◌≡◌, ◌<◌, rules, true, false, Err, Some, ap, map, refl, string_bytes, sym}
use Rattle.tko_commands.proofs.FaultLineLemmas.{of_err, of_ok, told_as}
use Rattle.tko_commands.specs.declared.fault.Fault.{Fault}
use Rattle.tko_commands.specs.declared.fault.Fault.TheVariants as fault
use Rattle.tko_commands.specs.NotDone.{HasNotChecked, HasNotDried}
use Rattle.tko_commands.specs.Replays.{ReplayFails}
use Rattle.tko_reach.specs.Connecting.{HasNotAskedServers}
use Rattle.tko_options.specs.declared.asked.Asked.TheVariants as asked
use Rattle.tko_options.specs.declared.refusal.Refusal.TheVariants as refusal
use Rattle.tko_cli.specs.Endings.{AfterReason, Checked, Connected, Demonstrated, Dried, HasNotServed, HasNotesFor, HasNotesOf, IsNotDone, NotCheckedFor, NotConnectedFor, NotDemonstrated, NotDriedFor, NotRead, NotReplayed, NotServedFor, NotShown, Served, Shown, WithFault}
use Rattle.tko_cli.proofs.EndingLemmas.{asked_of, fault_as, refused_of}
use Rattle.tko_cli.proofs.program.command.Goals as goal

pub returns-in-Ok-Dry-clause-done : goal.returns-in-Ok-Dry-clause-done
returns-in-Ok-Dry-clause-done g c = λ is.
    let options = c.in-Ok-Dry.options in
    Dried options (asked_of c.read.result _ (asked.Dry options) (search rules) c.read.ensures.read)
    (c.run_dry.ensures.dry is) (c.run_dry.ensures.done is)

pub returns-in-Ok-Serve-clause-done : goal.returns-in-Ok-Serve-clause-done
returns-in-Ok-Serve-clause-done g c = λ is.
    let options = c.in-Ok-Serve.options in
    Served options (asked_of c.read.result _ (asked.Serve options) (search rules) c.read.ensures.read)
    (c.run_server.ensures.done is) refl

pub returns-in-Ok-Check-clause-done : goal.returns-in-Ok-Check-clause-done
returns-in-Ok-Check-clause-done g c = λ is.
    let options = c.in-Ok-Check.options in
    Connected _ options (asked_of c.read.result _ (asked.Check options) (search rules) c.read.ensures.read)
    (search rules) (c.run_connected.ensures.whole is) (c.run_connected.ensures.done (search rules))

pub returns-in-Ok-Check-clause-unanswered : goal.returns-in-Ok-Check-clause-unanswered
returns-in-Ok-Check-clause-unanswered g c = λ is.
    let options = c.in-Ok-Check.options in
    record {
      left = _;
      options = options;
      asked = asked_of c.read.result _ (asked.Check options) (search rules) c.read.ensures.read;
      connects = search rules;
      connected = c.run_connected.ensures.part is;
      silent = c.run_connected.ensures.done (search rules);
    }

pub returns-in-Ok-Check-2-clause-done : goal.returns-in-Ok-Check-2-clause-done
returns-in-Ok-Check-2-clause-done g c = λ is.
    let options = c.in-Ok-Check.options in
    Checked _ options (asked_of c.read.result _ (asked.Check options) (search rules) c.read.ensures.read)
    (search rules) (c.run_check.ensures.check is) (c.run_check.ensures.done is)

pub returns-in-Ok-Demo-clause-done : goal.returns-in-Ok-Demo-clause-done
returns-in-Ok-Demo-clause-done g c = λ is.
    let options = c.in-Ok-Demo.options in
    Demonstrated options (asked_of c.read.result _ (asked.Demo options) (search rules) c.read.ensures.read)
    (c.run_demo.ensures.done is) (c.run_demo.ensures.silent is)

pub returns-in-Err-Answer-clause-done : goal.returns-in-Err-Answer-clause-done
returns-in-Err-Answer-clause-done g c = λ is.
    let shown = refusal.Answer c.in-Err-Answer.text in
    Shown shown c.as_str-in-Err-Answer.result.now
    (refused_of c.read.result (map string_bytes c.args.words.now) shown (search rules) c.read.ensures.refused)
    (ap Some (sym c.as_str-in-Err-Answer.ensures.value))
    (of_ok c.show-done.result (c.status_of-in-Err-Answer.ensures.ok is) c.show-done.ensures.ok) refl
    (c.status_of-in-Err-Answer.ensures.done is)

pub returns-in-Ok-Dry-clause-fault : goal.returns-in-Ok-Dry-clause-fault
returns-in-Ok-Dry-clause-fault g c = λ is.
    let options = c.in-Ok-Dry.options in
    let words = map string_bytes c.args.words.now in
    let asked_is = asked_of c.read.result _ (asked.Dry options) (search rules) c.read.ensures.read in
    WithFault (AfterReason (told_as g.F.Outlet.takes g.F.Outlet.failures (HasNotDried g.I.Inlet g.O.Outlet options (c.args.input.now, c.args.output.now) (c.run_dry.new.input, c.run_dry.new.output))
    (IsNotDone g.I.Inlet g.O.Outlet words (c.args.input.now, c.args.output.now) (c.run_dry.new.input, c.run_dry.new.output)) c.args.faults.now c.run_dry.new.faults
    (λ reason why. NotDriedFor options asked_is why) (c.run_dry.ensures.fault is)))

pub returns-in-Ok-Replay-clause-fault : goal.returns-in-Ok-Replay-clause-fault
returns-in-Ok-Replay-clause-fault g c = λ is.
    let words = map string_bytes c.args.words.now in
    let asked_is = asked_of c.read.result _ asked.Replay (search rules) c.read.ensures.read in
    WithFault (AfterReason (told_as g.F.Outlet.takes g.F.Outlet.failures
    (ReplayFails g.I.Inlet.gives g.I.Inlet.is_ended g.I.Inlet.failures g.O.Outlet.failures c.args.input.now c.run_replay.new.input c.args.output.now c.run_replay.new.output)
    (IsNotDone g.I.Inlet g.O.Outlet words (c.args.input.now, c.args.output.now) (c.run_replay.new.input, c.run_replay.new.output)) c.args.faults.now c.run_replay.new.faults
    (λ reason why. NotReplayed asked_is why) (c.run_replay.ensures.fault is)))

pub returns-in-Ok-Serve-clause-fault : goal.returns-in-Ok-Serve-clause-fault
returns-in-Ok-Serve-clause-fault g c = λ is.
    let options = c.in-Ok-Serve.options in
    let words = map string_bytes c.args.words.now in
    let asked_is = asked_of c.read.result _ (asked.Serve options) (search rules) c.read.ensures.read in
    WithFault (fault_as g.O.Outlet.takes g.O.Outlet.failures g.F.Outlet
    (HasNotesFor g.F.Outlet options) (HasNotesOf g.F.Outlet words)
    (HasNotServed g.O.Outlet.takes g.O.Outlet.failures options c.args.output.now c.run_server.new.output)
    (IsNotDone g.I.Inlet g.O.Outlet words (c.args.input.now, c.args.output.now) (c.args.input.now, c.run_server.new.output)) c.args.output.now c.run_server.new.output c.args.faults.now c.run_server.new.faults
    (λ middle noted. record { options = options; asked = asked_is; noted = noted })
    (λ reason why. NotServedFor options asked_is why refl) (c.run_server.ensures.fault is))

pub returns-in-Ok-Check-clause-fault : goal.returns-in-Ok-Check-clause-fault
returns-in-Ok-Check-clause-fault g c = λ is.
    let options = c.in-Ok-Check.options in
    let words = map string_bytes c.args.words.now in
    let asked_is = asked_of c.read.result _ (asked.Check options) (search rules) c.read.ensures.read in
    let connects : options.connect ≡ true = search rules in
    WithFault (AfterReason (told_as g.F.Outlet.takes g.F.Outlet.failures
    (HasNotAskedServers g.I.Inlet _ g.O.Outlet options (c.args.input.now, c.args.output.now) (c.run_connected.new.input, c.run_connected.new.output))
    (IsNotDone g.I.Inlet g.O.Outlet words (c.args.input.now, c.args.output.now) (c.run_connected.new.input, c.run_connected.new.output)) c.args.faults.now c.run_connected.new.faults
    (λ reason why. NotConnectedFor _ options asked_is connects why) (c.run_connected.ensures.fault is)))

pub returns-in-Ok-Check-2-clause-fault : goal.returns-in-Ok-Check-2-clause-fault
returns-in-Ok-Check-2-clause-fault g c = λ is.
    let options = c.in-Ok-Check.options in
    let words = map string_bytes c.args.words.now in
    let asked_is = asked_of c.read.result _ (asked.Check options) (search rules) c.read.ensures.read in
    let alone : options.connect ≡ false = search rules in
    WithFault (AfterReason (told_as g.F.Outlet.takes g.F.Outlet.failures
    (HasNotChecked g.I.Inlet.failures g.O.Outlet.failures options (c.args.input.now, c.args.output.now) (c.run_check.new.input, c.run_check.new.output))
    (IsNotDone g.I.Inlet g.O.Outlet words (c.args.input.now, c.args.output.now) (c.run_check.new.input, c.run_check.new.output)) c.args.faults.now c.run_check.new.faults
    (λ reason why. NotCheckedFor options asked_is alone why) (c.run_check.ensures.fault is)))

pub returns-in-Err-Memory-clause-fault : goal.returns-in-Err-Memory-clause-fault
returns-in-Err-Memory-clause-fault g c = λ is.
    let words = map string_bytes c.args.words.now in
    let refused = refused_of c.read.result words refusal.Memory (search rules) c.read.ensures.refused in
    WithFault (AfterReason (told_as g.F.Outlet.takes g.F.Outlet.failures
    _
    (IsNotDone g.I.Inlet g.O.Outlet words (c.args.input.now, c.args.output.now) (c.args.input.now, c.args.output.now)) c.args.faults.now c.status_of.new.faults
    (λ reason same. NotRead refused (cc) refl) (c.status_of.ensures.fault is)))

pub returns-in-Err-Answer-clause-fault : goal.returns-in-Err-Answer-clause-fault
returns-in-Err-Answer-clause-fault g c = λ is.
    let shown = refusal.Answer c.in-Err-Answer.text in
    let words = map string_bytes c.args.words.now in
    let failed : Fault → Type 0 = λ reason. (reason ≡ fault.Write)
    × (g.O.Outlet.failures c.args.output.now < g.O.Outlet.failures c.show-done.new.outlet) in
    let refused = refused_of c.read.result words shown (search rules) c.read.ensures.refused in
    let text = ap Some (sym c.as_str-in-Err-Answer.ensures.value) in
    WithFault (AfterReason (told_as g.F.Outlet.takes g.F.Outlet.failures (λ reason. c.show-done.result ≡ Err reason)
    (IsNotDone g.I.Inlet g.O.Outlet words (c.args.input.now, c.args.output.now) (c.args.input.now, c.show-done.new.outlet)) c.args.faults.now c.status_of-in-Err-Answer.new.faults
    (λ reason same.
    let it = of_err failed c.show-done.result reason same c.show-done.ensures.err in
    NotShown shown c.as_str-in-Err-Answer.result.now refused text it.0 it.1 refl)
    (c.status_of-in-Err-Answer.ensures.fault is)))

pub returns-in-Ok-Demo-clause-fault : goal.returns-in-Ok-Demo-clause-fault
returns-in-Ok-Demo-clause-fault g c = λ is.
    let options = c.in-Ok-Demo.options in
    NotDemonstrated options (asked_of c.read.result _ (asked.Demo options) (search rules) c.read.ensures.read)
    (c.run_demo.ensures.fault is)
