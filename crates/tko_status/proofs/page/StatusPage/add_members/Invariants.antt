use Rattle.std.proofs.Common.{◌≡◌, ◌++◌, drop, flat_map}
use Rattle.tko_status.specs.Pages.{member_row}
use Rattle.tko_status.proofs.page.StatusPage.add_members.Given as goal

abbrev pub invariant-loop-number : goal.invariant-loop-number
invariant-loop-number l =
    l.out.items ++ flat_map (member_row l.self) (drop l.number-index l.numbers)
    ≡ l.initial.out.items ++ flat_map (member_row l.self) l.numbers
