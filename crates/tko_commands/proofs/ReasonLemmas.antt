-- A line that says why, before the line of a fault.
use Rattle.std.proofs.Common.{◌≡◌, ℕ, ◌<◌, List, Err, IsSomeAnd, Ok, OnErr, OnOk, Option, Result, Some, refl, subst, sym}
use Rattle.tko_explain.specs.Reasons.{IsReasonOf}
use Rattle.tko_pools.specs.declared.fault.ConfigFault.{ConfigFault}
use Rattle.tko_commands.specs.FaultLines.{IsFaultWritten, IsReasonTold, IsToldAfter}
use Rattle.tko_commands.specs.OutsideRanges.{IsRangeReason, range_line}
use Rattle.tko_commands.specs.Reasons.{HasLineOf, Written, LeftOut, Failed, IsFileReason, IsReasonFor}
use Rattle.tko_commands.specs.declared.fault.Fault.{Fault}
use Rattle.tko_commands.specs.declared.outside_range.OptionRange.{OptionRange}
use Rattle.tko_commands.specs.declared.outside_range.OutsideRange.{OutsideRange}
use Rattle.tko_commands.specs.declared.fault.Fault.TheVariants as fault

pub has_line : {O T E : Type 0} (takes : O → List ℕ → O → Type 0) (failures : O → ℕ) (is : List ℕ → Type 0)
    (old new : O) (line : List ℕ) (result : Result T E) → is line → OnOk result (takes old line new)
    → OnErr result (failures old < failures new) → HasLineOf takes failures is old new
has_line takes failures is old new line (Ok value) good went failed = Written line good went
has_line takes failures is old new line (Err error) good went failed = Failed failed

-- a line of one kind is one of another
line_as : {O : Type 0} (takes : O → List ℕ → O → Type 0) (failures : O → ℕ) (is other : List ℕ → Type 0) (old new : O)
    → ((line : List ℕ) → is line → other line) → HasLineOf takes failures is old new
    → HasLineOf takes failures other old new
line_as takes failures is other old new next (Written line good went) = Written line (next line good) went
line_as takes failures is other old new next (LeftOut same) = LeftOut same
line_as takes failures is other old new next (Failed failed) = Failed failed

-- why a text is no configuration
pub config_reason : {O : Type 0} (takes : O → List ℕ → O → Type 0) (failures : O → ℕ) (json : List ℕ)
    (cause : ConfigFault) (old new : O) → HasLineOf takes failures (IsReasonOf json cause) old new
    → HasLineOf takes failures (IsReasonFor (fault.Config cause)) old new
config_reason takes failures json cause old new it =
    line_as takes failures (IsReasonOf json cause) (IsReasonFor (fault.Config cause)) old new
    (λ line good. (json, good)) it

-- the same of the text that keys are compared with
pub against_reason : {O : Type 0} (takes : O → List ℕ → O → Type 0) (failures : O → ℕ) (json : List ℕ)
    (cause : ConfigFault) (old new : O) → HasLineOf takes failures (IsReasonOf json cause) old new
    → HasLineOf takes failures (IsReasonFor (fault.Against cause)) old new
against_reason takes failures json cause old new it =
    line_as takes failures (IsReasonOf json cause) (IsReasonFor (fault.Against cause)) old new
    (λ line good. (json, good)) it

-- which option gives a number outside its range
pub range_reason : (outside : OutsideRange) (range : OptionRange) (line : List ℕ) → outside.option ≡ Some range
    → line ≡ range_line outside.setting range → IsRangeReason outside line
range_reason outside range line some is =
    let P : Option OptionRange → Type 0 = λ option. IsSomeAnd option (λ it. line ≡ range_line outside.setting it) in
    subst P (sym some) is

-- why a file cannot be read
pub file_reason : {O : Type 0} (takes : O → List ℕ → O → Type 0) (failures : O → ℕ) (path : List ℕ)
    (old new : O) → HasLineOf takes failures (IsFileReason path) old new
    → HasLineOf takes failures (IsReasonFor fault.ConfigFile) old new
file_reason takes failures path old new it =
    line_as takes failures (IsFileReason path) (IsReasonFor fault.ConfigFile) old new
    (λ line good. (path, good)) it

-- the reason of an address, and then the fault
pub told_after : {F : Type 0} (notes : F → List ℕ → F → Type 0) (faults : F → ℕ) (why : List ℕ → Type 0) (reason : Fault)
    (old new : F) → ((line : List ℕ) → why line → IsReasonFor reason line) → IsToldAfter notes faults why reason old new
    → IsReasonTold notes faults (λ it. it ≡ reason) old new
told_after notes faults why reason old new next told = record {
  middle = told.middle;
  fault = reason;
  known = refl;
  reason = line_as notes faults why (IsReasonFor reason) old told.middle next told.reason;
  line = told.line;
}

-- the reason and then the fault
pub told_with : {F : Type 0} (notes : F → List ℕ → F → Type 0) (faults : F → ℕ) (came : Fault → Type 0)
    (reason : Fault) (old middle new : F) → came reason
    → HasLineOf notes faults (IsReasonFor reason) old middle → IsFaultWritten notes faults reason middle new
    → IsReasonTold notes faults came old new
told_with notes faults came reason old middle new known why line =
    record { middle = middle; fault = reason; known = known; reason = why; line = line }
