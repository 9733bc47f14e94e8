use Rattle.std.proofs.Common.{rules, refl, sym, ◌∙◌, ap, inl, inr}
use Rattle.std.specs.Option.{option_map}
use Rattle.tko_port.specs.Wires.{gave, held}
use Rattle.tko_port.proofs.WireLemmas.{no_text}
use Rattle.tko_port.proofs.wire.write_piece.Goals as goal

pub returns-then-is_empty-clause-writes : goal.returns-then-is_empty-clause-writes
returns-then-is_empty-clause-writes g c =
    held (g.L.Port.port c.in-Some.port) (ap (option_map g.L.Port.port) c.in-Some.is)
    (inl (no_text c.args.text.now (sym c.is_empty.ensures ∙ c.if-is_empty.true))) refl
    (sym (ap (option_map g.L.Port.port) c.in-Some.is))

pub returns-then-not-is_writable-clause-writes : goal.returns-then-not-is_writable-clause-writes
returns-then-not-is_writable-clause-writes g c =
    held (g.L.Port.port c.in-Some.port) (ap (option_map g.L.Port.port) c.in-Some.is)
    (inr (search rules)) refl (sym (ap (option_map g.L.Port.port) c.in-Some.is))

pub returns-clause-writes : goal.returns-clause-writes
returns-clause-writes g c =
    gave (g.L.Port.port c.in-Some.port) (g.L.Port.port c.write.new.self)
    (ap (option_map g.L.Port.port) c.in-Some.is) c.write.ensures refl
