-- The reading of a server's answer.
use Rattle.std.proofs.Common.{◌≡◌, ℕ, Bool, true, List, [], ◌∷◌, ◌++◌, refl, ap, sym, ◌∙◌, inl, inr, append-nil, take, Some, None, subst}
use Rattle.std.specs.List.{concat}
use Rattle.tko_text.specs.declared.request.Request.TheVariants as request
use Rattle.tko_text.specs.ResponseReads.{NoResponse, ReadsResponse}
use Rattle.tko_text.proofs.ResponseLengthLemmas.{no_response_none}
use Rattle.tko_links.specs.declared.wire.WireFault.{WireFault}
use Rattle.tko_links.specs.declared.wire.WireFault.TheVariants as wire_fault
use Rattle.tko_links.specs.Exchanges.{IsPart, got_all}
use Rattle.tko_links.specs.Wires.{WireItem, Failed, Got}
use Rattle.tko_links.proofs.PartLemmas.{part_append, part_as, part_none}
use Rattle.tko_links.proofs.SendLemmas.{concat_push, part_got}
use Rattle.tko_reach.specs.Asking.{HearingEnds, Hears, IsHeard, reach_cut}
use Rattle.tko_reach.specs.declared.reach.Reach.{Reach}
use Rattle.tko_reach.specs.declared.reach.Reach.TheVariants as reach

-- so many pieces were read, and no front of them is an answer
pub record HeardSoFar {W : Type 0} (servers : W → ℕ) (connected : W → ℕ → Bool) (failures : W → ℕ)
    (steps : W → WireItem → W → Type 0) (server : ℕ) (old : W) (bytes : List ℕ) (new : W)
    : Type 0 where
  pub pieces : List (List ℕ)
  pub part : IsPart servers connected failures steps server old (got_all server pieces) true new
  pub whole : concat pieces ≡ bytes
  pub unanswered : NoResponse request.Version bytes

-- the beginning of an answer has none as its front
pub short_unanswered : (bytes : List ℕ) → IsHeard bytes None → NoResponse request.Version bytes
unfolding ReadsResponse
short_unanswered bytes short = short.1

pushed : (pieces : List (List ℕ)) (piece bytes : List ℕ) → concat pieces ≡ bytes
    → concat (pieces ++ piece ∷ []) ≡ bytes ++ piece
pushed pieces piece bytes e = concat_push pieces piece ∙ ap (λ xs. xs ++ piece) e

heard_end : (server : ℕ) (pieces : List (List ℕ)) (bytes : List ℕ) (came : Reach) → concat pieces ≡ bytes
    → IsHeard bytes (Some came) → HearingEnds server pieces [] came
heard_end server pieces bytes (reach.Version text) e is =
    (refl, subst (λ xs. IsHeard xs (Some (reach.Version text))) (sym e) is)
heard_end server pieces bytes (reach.Answer answer) e is =
    (refl, subst (λ xs. IsHeard xs (Some (reach.Answer answer))) (sym e) is)
heard_end server pieces bytes reach.Refused e is = absurd is
heard_end server pieces bytes reach.Timeout e is = absurd is
heard_end server pieces bytes reach.Broken e is = absurd is

failed_end : (server : ℕ) (pieces : List (List ℕ)) (f : WireFault)
    → HearingEnds server pieces (Failed server f ∷ []) (reach_cut f)
failed_end server pieces wire_fault.TimedOut = refl
failed_end server pieces wire_fault.Other = inl refl

module _ {W : Type 0} {servers : W → ℕ} {connected : W → ℕ → Bool} {failures : W → ℕ}
    {steps : W → WireItem → W → Type 0}
    {server : ℕ} where
  pub heard_none : (old : W) → connected old server ≡ true
      → HeardSoFar servers connected failures steps server old [] old
  heard_none old there = record {
    pieces = [];
    part = part_none there;
    whole = refl;
    unanswered = no_response_none request.Version;
  }

  pub heard_more : {old mid new : W} {bytes : List ℕ} (piece : List ℕ)
      → HeardSoFar servers connected failures steps server old bytes mid
      → IsPart servers connected failures steps server mid (Got server piece ∷ []) true new
      → IsHeard (bytes ++ piece) None
      → HeardSoFar servers connected failures steps server old (bytes ++ piece) new
  heard_more {bytes} piece heard last short = record {
    pieces = heard.pieces ++ piece ∷ [];
    part = part_got heard.pieces piece heard.part last;
    whole = pushed heard.pieces piece bytes heard.whole;
    unanswered = short_unanswered (bytes ++ piece) short;
  }

  pub hears_answer : {old mid new : W} {bytes : List ℕ} (piece : List ℕ) (came : Reach)
      → HeardSoFar servers connected failures steps server old bytes mid
      → IsPart servers connected failures steps server mid (Got server piece ∷ []) true new
      → IsHeard (bytes ++ piece) (Some came)
      → Hears servers connected failures steps server old came new
  hears_answer {bytes} piece came heard last is = record {
    pieces = heard.pieces ++ piece ∷ [];
    tail = [];
    part = part_as (sym (append-nil (got_all server (heard.pieces ++ piece ∷ []))))
        (part_got heard.pieces piece heard.part last);
    ends = heard_end server (heard.pieces ++ piece ∷ []) (bytes ++ piece) came
        (pushed heard.pieces piece bytes heard.whole) is;
  }

  -- the end of input
  pub hears_end : {old mid new : W} {bytes : List ℕ}
      → HeardSoFar servers connected failures steps server old bytes mid
      → IsPart servers connected failures steps server mid (Got server [] ∷ []) true new
      → Hears servers connected failures steps server old reach.Broken new
  hears_end {bytes} heard last =
      let all = pushed heard.pieces [] bytes heard.whole ∙ append-nil bytes in
      record {
        pieces = heard.pieces ++ [] ∷ [];
        tail = [];
        part = part_as (sym (append-nil (got_all server (heard.pieces ++ [] ∷ []))))
            (part_got heard.pieces [] heard.part last);
        ends = inr (
          refl,
          record { front = heard.pieces; whole = refl },
          subst (λ xs. NoResponse request.Version xs) (sym all) heard.unanswered,
        );
      }

  pub hears_failed : {old mid new : W} {bytes : List ℕ} (f : WireFault)
      → HeardSoFar servers connected failures steps server old bytes mid
      → IsPart servers connected failures steps server mid (Failed server f ∷ []) true new
      → Hears servers connected failures steps server old (reach_cut f) new
  hears_failed f heard last = record {
    pieces = heard.pieces;
    tail = Failed server f ∷ [];
    part = part_append heard.part last;
    ends = failed_end server heard.pieces f;
  }

-- to read 0 bytes is to read none
pub got_nothing : (server : ℕ) (piece : List ℕ) (count : ℕ) → count ≡ 0
    → Got server (take count piece) ∷ [] ≡ Got server [] ∷ []
got_nothing server [] count e = ap (λ n. Got server (take n []) ∷ []) e
got_nothing server (b ∷ bytes) count e = ap (λ n. Got server (take n (b ∷ bytes)) ∷ []) e
