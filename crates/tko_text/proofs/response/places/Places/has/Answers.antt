use Rattle.std.proofs.Common.{List, ◌≡◌, ◌%◌, false, get_or, length, rules, subst, sym}
use Rattle.std.specs.List.{list_any}
use Rattle.std.specs.Str.{bytes_eq}
use Rattle.tko_text.specs.declared.response.place.ValuePlace.{ValuePlace}
use Rattle.tko_text.specs.KeyHashes.{key_hash}
use Rattle.tko_text.proofs.KeyHashLemmas.{unseen}
use Rattle.tko_text.proofs.response.places.Places.has.Goals as goal

pub returns-then-not-index : goal.returns-then-not-index
returns-then-not-index c =
    let seen = c.self.inside.seen.items in
    let none : get_or seen (key_hash c.args.key.now % length seen) false ≡ false = search rules in
    subst (λ (places : List ValuePlace). false ≡ list_any (λ (place : ValuePlace). bytes_eq place.key c.args.key.now) places) c.self.view_is
    (sym (unseen seen c.self.inside.places.items c.args.key.now c.self.invariant none))
