-- The writing of an exchange: the pieces of a request.
use Rattle.std.proofs.Common.{◌≡◌, ℕ, ◌+◌, ◌-◌, ◌<◌, ◌≤◌, Bool, true, List, [], ◌∷◌, ◌++◌, length}
use Rattle.std.proofs.Common.{take, drop, refl, ap, sym, ◌∙◌, arith, append-nil, length-drop}
use Rattle.std.proofs.Common.{Ok, Err}
use Rattle.std.specs.List.{concat}
use Rattle.std.proofs.lemmas.List.{length-take-le, map-append, take-append-drop, take_all}
use Rattle.std.proofs.lemmas.List.Folds.{concat-append}
use Rattle.tko_io.proofs.ListLemmas.{take-next}
use Rattle.tko_links.specs.declared.fault.LinkFault.TheVariants as fault
use Rattle.tko_links.specs.declared.wire.WireFault.{WireFault}
use Rattle.tko_links.specs.declared.wire.WireFault.TheVariants as wire_fault
use Rattle.tko_links.specs.ExchangeParts.{SendsPart, WriteEnds}
use Rattle.tko_links.specs.Exchanges.{ConnectionFailed, WriteTookNone, BeginsText, IsPart}
use Rattle.tko_links.specs.Exchanges.{got_all, wrote_all}
use Rattle.tko_links.specs.Faults.{link_fault_of}
use Rattle.tko_links.specs.Wires.{WireItem, Failed, Got, Wrote}
use Rattle.tko_links.proofs.PartLemmas.{part_append, part_as, part_none}

-- so much of a text was written
pub record SentSoFar {W : Type 0} (servers : W → ℕ) (connected : W → ℕ → Bool) (failures : W → ℕ)
    (steps : W → WireItem → W → Type 0) (server : ℕ) (text : List ℕ) (old : W) (at : ℕ)
    (new : W) : Type 0 where
  pub pieces : List (List ℕ)
  pub part : IsPart servers connected failures steps server old (wrote_all server pieces) true new
  pub whole : concat pieces ≡ take at text

pub concat_push : (pieces : List (List ℕ)) (piece : List ℕ)
    → concat (pieces ++ piece ∷ []) ≡ concat pieces ++ piece
concat_push pieces piece =
    concat-append pieces (piece ∷ []) ∙ ap (λ xs. concat pieces ++ xs) (append-nil piece)

front_of : (bytes text : List ℕ) (at : ℕ) → bytes ≡ take at text → BeginsText bytes text
front_of bytes text at e = record {
  rest = drop at text;
  whole = sym (take-append-drop at text) ∙ ap (λ xs. xs ++ drop at text) (sym e);
}

failed_end : (server : ℕ) (text : List ℕ) (pieces : List (List ℕ)) (f : WireFault)
    → WriteEnds server text pieces (Failed server f ∷ []) (Err (link_fault_of f))
failed_end server text pieces wire_fault.TimedOut = refl
failed_end server text pieces wire_fault.Other = λ request. ConnectionFailed refl

module _ {W : Type 0} {servers : W → ℕ} {connected : W → ℕ → Bool} {failures : W → ℕ}
    {steps : W → WireItem → W → Type 0}
    {server : ℕ} where
  pub sent_none : {text : List ℕ} (old : W) → connected old server ≡ true
      → SentSoFar servers connected failures steps server text old 0 old
  sent_none old there = record { pieces = []; part = part_none there; whole = refl }

  -- a write took bytes of what is left of the text
  pub sent_more : {text : List ℕ} {old mid new : W} {at : ℕ} (count : ℕ)
      → SentSoFar servers connected failures steps server text old at mid
      → IsPart servers connected failures steps server mid
      (Wrote server (take count (take (length text - at) (drop at text))) ∷ []) true new
      → SentSoFar servers connected failures steps server text old (at + count) new
  sent_more {text} {at} count front last =
      let piece = take count (take (length text - at) (drop at text)) in
      record {
        pieces = front.pieces ++ piece ∷ [];
        part = part_as (sym (map-append (Wrote server) front.pieces (piece ∷ [])))
            (part_append front.part last);
        whole = concat_push front.pieces piece ∙ ap (λ xs. xs ++ piece) front.whole
            ∙ sym (take-next text at count);
      }

  pub part_got : {old mid new : W} (pieces : List (List ℕ)) (piece : List ℕ)
      → IsPart servers connected failures steps server old (got_all server pieces) true mid
      → IsPart servers connected failures steps server mid (Got server piece ∷ []) true new
      → IsPart servers connected failures steps server old
      (got_all server (pieces ++ piece ∷ [])) true new
  part_got pieces piece front last =
      part_as (sym (map-append (Got server) pieces (piece ∷ []))) (part_append front last)

  pub sends_all : {text : List ℕ} {old new : W} {at : ℕ}
      → SentSoFar servers connected failures steps server text old at new
      → length text ≤ at → SendsPart servers connected failures steps server text old (Ok tt) new
  sends_all {text} {at} sent all = record {
    pieces = sent.pieces;
    tail = [];
    part = part_as (sym (append-nil (wrote_all server sent.pieces))) sent.part;
    front = front_of (concat sent.pieces) text at sent.whole;
    ends = (refl, sent.whole ∙ take_all at text all);
  }

  pub sends_failed : {text : List ℕ} {old mid new : W} {at : ℕ} (f : WireFault)
      → SentSoFar servers connected failures steps server text old at mid
      → IsPart servers connected failures steps server mid (Failed server f ∷ []) true new
      → SendsPart servers connected failures steps server text old (Err (link_fault_of f)) new
  sends_failed {text} {at} f sent last = record {
    pieces = sent.pieces;
    tail = Failed server f ∷ [];
    part = part_append sent.part last;
    front = front_of (concat sent.pieces) text at sent.whole;
    ends = failed_end server text sent.pieces f;
  }

  -- a write took nothing
  pub sends_stuck : {text : List ℕ} {old mid new : W} {at : ℕ}
      → SentSoFar servers connected failures steps server text old at mid
      → IsPart servers connected failures steps server mid (Wrote server [] ∷ []) true new
      → SendsPart servers connected failures steps server text old (Err fault.Broken) new
  sends_stuck {text} {at} sent last = record {
    pieces = sent.pieces ++ [] ∷ [];
    tail = [];
    part =
        part_as (sym (map-append (Wrote server) sent.pieces ([] ∷ []))
        ∙ sym (append-nil (wrote_all server (sent.pieces ++ [] ∷ []))))
        (part_append sent.part last);
    front = front_of (concat (sent.pieces ++ [] ∷ [])) text at
        (concat_push sent.pieces [] ∙ append-nil (concat sent.pieces) ∙ sent.whole);
    ends = λ request. WriteTookNone refl refl (record { front = sent.pieces; whole = refl });
  }

-- what is left of a text that was not written whole
pub left_is_some : (text : List ℕ) (at : ℕ) → at < length text
    → 0 < length (take (length text - at) (drop at text))
left_is_some text at more =
    let size = length-drop at text in
    omega
    (arith, more, size, length-take-le (length text - at) (drop at text) (omega (arith, size)))

pub left_within : (text : List ℕ) (at count : ℕ) → at ≤ length text
    → count ≤ length (take (length text - at) (drop at text))
    → at + count ≤ length text
left_within text at count within few =
    let size = length-drop at text in
    omega (
      arith,
      few,
      within,
      size,
      length-take-le (length text - at) (drop at text)
          (omega (arith, size)),
    )

take_none : (piece : List ℕ) → take 0 piece ≡ []
take_none [] = refl
take_none (b ∷ bytes) = refl

-- to take 0 bytes is to take none
pub wrote_none : (server : ℕ) (piece : List ℕ) (count : ℕ) → count ≡ 0
    → Wrote server (take count piece) ∷ [] ≡ Wrote server [] ∷ []
wrote_none server piece count e =
    ap (λ n. Wrote server (take n piece) ∷ []) e ∙ ap (λ xs. Wrote server xs ∷ []) (take_none piece)
