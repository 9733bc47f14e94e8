-- The writing of what a server is asked.
use Rattle.std.proofs.Common.{◌≡◌, ℕ, ◌≤◌, Bool, true, List, [], ◌∷◌, ◌++◌, length}
use Rattle.std.proofs.Common.{take, drop, refl, ap, sym, ◌∙◌, inl, inr, append-nil, Ok, Err}
use Rattle.std.specs.List.{concat}
use Rattle.std.proofs.lemmas.List.{map-append, take-append-drop, take_all}
use Rattle.tko_links.specs.declared.wire.WireFault.{WireFault}
use Rattle.tko_links.specs.declared.wire.WireFault.TheVariants as wire_fault
use Rattle.tko_links.specs.Exchanges.{BeginsText, IsPart, wrote_all}
use Rattle.tko_links.specs.Wires.{WireItem, Failed, Wrote}
use Rattle.tko_links.proofs.PartLemmas.{part_append, part_as}
use Rattle.tko_links.proofs.SendLemmas.{SentSoFar, concat_push}
use Rattle.tko_reach.specs.Asking.{SendingEnds, Sends}

front_of : (bytes text : List ℕ) (at : ℕ) → bytes ≡ take at text → BeginsText bytes text
front_of bytes text at e = record {
  rest = drop at text;
  whole = sym (take-append-drop at text) ∙ ap (λ xs. xs ++ drop at text) (sym e);
}

failed_end : (server : ℕ) (text : List ℕ) (pieces : List (List ℕ)) (f : WireFault)
    → SendingEnds server text pieces (Failed server f ∷ []) (Err f)
failed_end server text pieces wire_fault.TimedOut = refl
failed_end server text pieces wire_fault.Other = inl refl

module _ {W : Type 0} {servers : W → ℕ} {connected : W → ℕ → Bool} {failures : W → ℕ}
    {steps : W → WireItem → W → Type 0}
    {server : ℕ} where
  pub sends_all : {text : List ℕ} {old new : W} {at : ℕ}
      → SentSoFar servers connected failures steps server text old at new
      → length text ≤ at → Sends servers connected failures steps server text old (Ok tt) new
  sends_all {text} {at} sent all = record {
    pieces = sent.pieces;
    tail = [];
    part = part_as (sym (append-nil (wrote_all server sent.pieces))) sent.part;
    front = front_of (concat sent.pieces) text at sent.whole;
    ends = (refl, sent.whole ∙ take_all at text all);
  }

  pub sends_failed : {text : List ℕ} {old mid new : W} {at : ℕ} (f : WireFault)
      → SentSoFar servers connected failures steps server text old at mid
      → IsPart servers connected failures steps server mid (Failed server f ∷ []) true new
      → Sends servers connected failures steps server text old (Err f) new
  sends_failed {text} {at} f sent last = record {
    pieces = sent.pieces;
    tail = Failed server f ∷ [];
    part = part_append sent.part last;
    front = front_of (concat sent.pieces) text at sent.whole;
    ends = failed_end server text sent.pieces f;
  }

  -- a write took nothing
  pub sends_stuck : {text : List ℕ} {old mid new : W} {at : ℕ}
      → SentSoFar servers connected failures steps server text old at mid
      → IsPart servers connected failures steps server mid (Wrote server [] ∷ []) true new
      → Sends servers connected failures steps server text old (Err wire_fault.Other) new
  sends_stuck {text} {at} sent last = record {
    pieces = sent.pieces ++ [] ∷ [];
    tail = [];
    part =
        part_as (sym (map-append (Wrote server) sent.pieces ([] ∷ []))
        ∙ sym (append-nil (wrote_all server (sent.pieces ++ [] ∷ []))))
        (part_append sent.part last);
    front = front_of (concat (sent.pieces ++ [] ∷ [])) text at
        (concat_push sent.pieces [] ∙ append-nil (concat sent.pieces) ∙ sent.whole);
    ends = inr (refl, record { front = sent.pieces; whole = refl });
  }
