-- What is written for a fault.
use Rattle.std.specs.Prelude.{◌<◌, ℕ, List, ◌++◌, codes}
use Rattle.tko_demo.specs.declared.fault.DemoFault.{DemoFault}
use Rattle.tko_demo.specs.declared.fault.DemoFault.TheVariants as fault

-- the address at which all of a demonstration listens
abbrev pub demo_address : List ℕ
demo_address = codes "127.0.0.1"

-- the line of a fault
abbrev pub demo_fault_line : DemoFault → List ℕ
demo_fault_line fault.Port = codes "fault: demo: no port of " ++ demo_address ++ codes "\n"
demo_fault_line fault.Thread = codes "fault: demo: no thread\n"
demo_fault_line fault.Reply = codes "fault: demo: a reply is not the one that is due\n"
demo_fault_line fault.Read = codes "fault: read\n"
demo_fault_line fault.Write = codes "fault: write\n"
demo_fault_line fault.Memory = codes "fault: memory\n"

-- the line of the fault was written and nothing else, or the output failed
pub data IsFaultShown {O : Type 0} (takes : O → List ℕ → O → Type 0) (failures : O → ℕ)
    (reason : DemoFault) (old new : O) : Type 0 where
  Written : takes old (demo_fault_line reason) new → IsFaultShown takes failures reason old new
  Failed : failures old < failures new → IsFaultShown takes failures reason old new

-- the system gives no port, no thread or no memory
abbrev pub IsUnavailable : DemoFault → Type 0
IsUnavailable fault.Port = Unit {0}
IsUnavailable fault.Thread = Unit {0}
IsUnavailable fault.Memory = Unit {0}
IsUnavailable other = ⊥
