use Rattle.std.proofs.Common.{◌≡◌, length, sym, ap, ◌∙◌, arith, length-take}
use Rattle.tko_io.proofs.ListLemmas.{left-front}
use Rattle.tko_io.proofs.taped.TapedInlet.read.Goals as goal

pub returns-clause-gives : goal.returns-clause-gives
returns-clause-gives g c =
    let copied = rw c.deref.ensures.value at c.copy_from_slice.ensures.after in
    let len = simp length-take at c.copy_from_slice.ensures.len in
    let count : length c.copy_from_slice.new.self ≡ c.min-count.result = omega (arith, len) in
    ap (λ tape. tape.left) (sym (c.self.view_is ∙ c.next_call.ensures.counted))
    ∙ left-front c.self.inside.bytes.items _ _ c.self.inside.given c.min-count.result copied count
