use Rattle.std.proofs.Common.{◌≡◌, ◌+◌, ◌++◌, [], ap, append-nil, drop, length, map, refl, sym}
use Rattle.std.proofs.Common.{take, ◌∙◌, arith}
use Rattle.std.proofs.lemmas.List.{take-append-drop}
use Rattle.std.specs.Prelude.{string_bytes}
use Rattle.tko_reply.proofs.ResultLemmas.{on_err, on_ok}
use Rattle.tko_reply.proofs.StatusLemmas.{lines_end, lines_extend, lines_more, looks_some}
use Rattle.tko_reply.proofs.StatusLemmas.{take-mapped, taken-all, taken-mapped}
use Rattle.tko_reply.proofs.status_text.append_status.Goals as goal

pub returns-in_err-append_line-clause-err : goal.returns-in_err-append_line-clause-err
returns-in_err-append_line-clause-err g c =
    on_err _ (lines_extend c.loop-server.invariant.0 c.in_err-append_line.ensures.err)

pub returns-in_err-append_line-clause-cut : goal.returns-in_err-append_line-clause-cut
returns-in_err-append_line-clause-cut g c =
    let at = c.loop-server.server in
    let all = c.args.addresses.now in
    let len : at ≡ length (take at (map string_bytes all)) =
    taken-mapped string_bytes all at (omega (arith, c.loop-server-test.true)) in
    let mapped = take-mapped string_bytes all at _ c.loop-server-test.true
    c.index-addresses-server.is in
    let rest = drop (at + 1) (map string_bytes all) in
    on_err _ (looks_some (map string_bytes all) rest
    (sym (ap (λ xs. xs ++ rest) mapped ∙ take-append-drop (at + 1) (map string_bytes all)))
    (lines_more _ _ at c.loop-server.invariant.0 len c.look_up-look.ensures.step refl))

pub loop-server-preserved : goal.loop-server-preserved
loop-server-preserved g c =
    let at = c.loop-server.server in
    let all = c.args.addresses.now in
    let line = rw (c.as_bytes.ensures.value, c.mark_of.ensures) at c.in_ok-append_line.ensures.ok in
    let len : at ≡ length (take at (map string_bytes all)) =
    taken-mapped string_bytes all at (omega (arith, c.loop-server-test.true)) in
    let next = lines_more _ _ at c.loop-server.invariant.0 len c.look_up-look.ensures.step line in
    let mapped = take-mapped string_bytes all at _ c.loop-server-test.true
    c.index-addresses-server.is in
    (rw mapped at next, c.look_up-look.ensures.servers ∙ c.loop-server.invariant.1)

pub returns-clause-ok : goal.returns-clause-ok
returns-clause-ok g c =
    let has =
    rw (taken-all string_bytes c.args.addresses.now c.loop-server.server
    c.loop-server-test.false) at c.loop-server.invariant.0 in
    on_ok _ c.append.ensures.ok (lines_end has)

pub returns-clause-cut : goal.returns-clause-cut
returns-clause-cut g c =
    let all = c.args.addresses.now in
    let has =
    rw (taken-all string_bytes all c.loop-server.server
    c.loop-server-test.false) at c.loop-server.invariant.0 in
    on_err _ (looks_some (map string_bytes all) [] (sym (append-nil (map string_bytes all))) has)
