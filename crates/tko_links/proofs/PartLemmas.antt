-- Laws of the parts of an exchange: one item, one part and then another.
use Rattle.std.proofs.Common.{◌≡◌, ℕ, zero, suc, ◌+◌, ◌<◌, Bool, List, [], ◌∷◌, ◌++◌, length, take, refl, ap, sym, ◌∙◌, subst, arith, rules, tests, sum_by, Ok}
use Rattle.std.proofs.lemmas.List.Sums.{sum_by-append, sum_by-cons}
use Rattle.tko_model.proofs.RecordLemmas.{gains_append, gains_none, gains_one}
use Rattle.tko_links.specs.Exchanges.{IsPart, failures_of}
use Rattle.tko_links.specs.Wires.{AllSame, OthersSame, WireItem, Wrote, wire_refusals_in}

sum_one : (item : WireItem) → sum_by failures_of (item ∷ []) ≡ failures_of item
sum_one item = omega (arith, sum_by-cons failures_of item [])

-- to take none of a piece is one failure
pub refusals_are : (server : ℕ) (piece : List ℕ) (count : ℕ) → 0 < length piece
    → wire_refusals_in piece (Ok count) ≡ failures_of (Wrote server (take count piece))
refusals_are server [] count some = absurd (omega (arith, some))
refusals_are server (b ∷ bytes) zero some = search (rules, tests)
refusals_are server (b ∷ bytes) (suc n) some = search (rules, tests)

module _ {W : Type 0} {servers : W → ℕ} {connected : W → ℕ → Bool} {failures : W → ℕ} {steps : W → WireItem → W → Type 0}
    {server : ℕ} where
  pub part_none : {at : W} {is_open : Bool} → connected at server ≡ is_open
      → IsPart servers connected failures steps server at [] is_open at
  part_none {at} there = record {
    gains = gains_none at;
    connection = there;
    others = λ other. λ _. refl;
    failed = omega arith;
    same_servers = refl;
  }

  pub part_one : {old new : W} {item : WireItem} {is_open : Bool} → steps old item new → connected new server ≡ is_open
      → OthersSame server (connected old) (connected new) → failures new ≡ failures old + failures_of item
      → servers new ≡ servers old → IsPart servers connected failures steps server old (item ∷ []) is_open new
  part_one {old} {new} {item} step there others failed same = record {
    gains = gains_one step;
    connection = there;
    others = others;
    failed = failed ∙ ap (λ n. failures old + n) (sym (sum_one item));
    same_servers = same;
  }

  -- an item that changes no connection
  pub part_kept : {old new : W} {item : WireItem} {is_open : Bool} → steps old item new → connected old server ≡ is_open
      → AllSame (connected old) (connected new) → failures new ≡ failures old + failures_of item
      → servers new ≡ servers old → IsPart servers connected failures steps server old (item ∷ []) is_open new
  part_kept {old} {new} {item} step there all failed same =
      part_one step (all server ∙ there) (λ other. λ _. all other) failed same

  pub part_append : {old mid new : W} {items others : List WireItem} {was is_open : Bool}
      → IsPart servers connected failures steps server old items was mid
      → IsPart servers connected failures steps server mid others is_open new
      → IsPart servers connected failures steps server old (items ++ others) is_open new
  part_append {old} {mid} {new} {items} {others} front back = record {
    gains = gains_append front.gains back.gains;
    connection = back.connection;
    others = λ other apart. back.others other apart ∙ front.others other apart;
    failed = omega (arith, front.failed, back.failed, sum_by-append failures_of items others);
    same_servers = back.same_servers ∙ front.same_servers;
  }

  -- the same part, by an equal list of items
  pub part_as : {old new : W} {items others : List WireItem} {is_open : Bool} → items ≡ others
      → IsPart servers connected failures steps server old items is_open new
      → IsPart servers connected failures steps server old others is_open new
  part_as {old} {new} {is_open} e part =
      subst (λ (list : List WireItem). IsPart servers connected failures steps server old list is_open new) e part
