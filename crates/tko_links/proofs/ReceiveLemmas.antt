-- The reading of an exchange: the pieces of a response.
use Rattle.std.proofs.Common.{◌≡◌, ℕ, Bool, true, List, [], ◌∷◌, ◌++◌, length, refl, ap}
use Rattle.std.proofs.Common.{sym, ◌∙◌, subst, inl, inr, arith, append-nil, Ok, Err}
use Rattle.std.specs.List.{concat}
use Rattle.tko_text.specs.declared.request.Request.{Request}
use Rattle.tko_text.specs.declared.response.Response.{Response}
use Rattle.tko_text.specs.declared.response.fault.ReadFault.TheVariants as read_fault
use Rattle.tko_text.specs.ResponseLengths.{IsLeastLength}
use Rattle.tko_text.specs.ResponseReads.{NoResponse, ReadsResponse}
use Rattle.tko_links.specs.declared.fault.LinkFault.{LinkFault}
use Rattle.tko_links.specs.declared.fault.LinkFault.TheVariants as fault
use Rattle.tko_links.specs.declared.wire.WireFault.TheVariants as wire_fault
use Rattle.tko_links.specs.ExchangeParts.{ReadsPiece, ReceiveEnds, Receives}
use Rattle.tko_links.specs.Exchanges.{ConnectionFailed, Ended, Unreadable, IsPart, got_all}
use Rattle.tko_links.specs.Incoming.{ResponseSoFar, IsResponseAwaited, HasPieceCome, BeginsWithReply, JudgesBytes, nothing_yet}
use Rattle.tko_links.specs.Wires.{WireItem, Failed}
use Rattle.tko_links.proofs.IncomingLemmas.{awaited_at_first}
use Rattle.tko_links.proofs.PartLemmas.{part_append, part_as, part_none}
use Rattle.tko_links.proofs.SendLemmas.{concat_push, part_got}

-- so many pieces were read for a response that is still awaited
pub record GotSoFar {W : Type 0} (servers : W → ℕ) (connected : W → ℕ → Bool) (failures : W → ℕ)
    (steps : W → WireItem → W → Type 0) (server : ℕ) (request : Request) (old : W)
    (arrival : ResponseSoFar) (new : W) : Type 0 where
  pub pieces : List (List ℕ)
  pub part : IsPart servers connected failures steps server old (got_all server pieces) true new
  pub whole : concat pieces ≡ arrival.bytes
  pub awaited : IsResponseAwaited request arrival

got_bytes : (pieces : List (List ℕ)) (piece bytes bytes' : List ℕ) → concat pieces ≡ bytes
    → bytes' ≡ bytes ++ piece
    → concat (pieces ++ piece ∷ []) ≡ bytes'
got_bytes pieces piece bytes bytes' e f =
    concat_push pieces piece ∙ ap (λ xs. xs ++ piece) e ∙ sym f

nothing_long : (xs : List ℕ) → length xs ≡ 0 → xs ≡ []
nothing_long [] e = refl
nothing_long (x ∷ xs) e = absurd (omega (arith, e))

judged_end : (server : ℕ) (request : Request) (pieces : List (List ℕ)) (piece bytes : List ℕ)
    (count : ℕ) (next : ResponseSoFar) (f : LinkFault) → concat (pieces ++ piece ∷ []) ≡ bytes
    → length piece ≡ count → JudgesBytes request bytes count next (Err f)
    → ReceiveEnds server request (pieces ++ piece ∷ []) [] (Err f)
judged_end server request pieces piece bytes count next fault.TimedOut e len judged = absurd judged
judged_end server request pieces piece bytes count next fault.Broken e len judged =
    λ sent. elim judged [
      | inl ended ↦
          let empty : piece ≡ [] = nothing_long piece (len ∙ ended.0) in
          Ended refl (record { front = pieces; whole = ap (λ xs. pieces ++ xs ∷ []) empty })
          (subst (λ xs. NoResponse request xs) (sym e) ended.1)
      | inr wrong ↦ Unreadable refl
          (subst (λ xs. ReadsResponse request xs (Err read_fault.Unreadable)) (sym e) wrong)
    ]
judged_end server request pieces piece bytes count next fault.Memory e len judged = refl

module _ {W : Type 0} {servers : W → ℕ} {connected : W → ℕ → Bool} {failures : W → ℕ}
    {steps : W → WireItem → W → Type 0}
    {server : ℕ} {request : Request} where
  pub got_none : (old : W) (at : ResponseSoFar) → connected old server ≡ true → at ≡ nothing_yet
      → GotSoFar servers connected failures steps server request old at old
  got_none old at there e = record {
    pieces = [];
    part = part_none there;
    whole = ap (λ (a : ResponseSoFar). a.bytes) (sym e);
    awaited = subst (λ (a : ResponseSoFar). IsResponseAwaited request a) (sym e) (awaited_at_first request);
  }

  -- a piece came
  pub come_of : {old mid new : W} {at next : ResponseSoFar} {count : ℕ}
      → GotSoFar servers connected failures steps server request old at mid
      → ReadsPiece servers connected failures steps server mid at.bytes (Ok count) new next.bytes
      → next.least ≡ at.least
      → HasPieceCome request next count
  come_of {at} {next} got read least = record {
    front = at.bytes;
    piece = read.0;
    whole = read.1;
    len = read.2;
    awaited = record {
      unanswered = got.awaited.unanswered;
      least = subst (λ n. IsLeastLength request at.bytes n) (sym least) got.awaited.least;
    };
  }

  -- and the response is still awaited
  pub got_more : {old mid new : W} {at : ResponseSoFar} (next after : ResponseSoFar) {count : ℕ}
      → GotSoFar servers connected failures steps server request old at mid
      → ReadsPiece servers connected failures steps server mid at.bytes (Ok count) new next.bytes
      → after.bytes ≡ next.bytes → IsResponseAwaited request after
      → GotSoFar servers connected failures steps server request old after new
  got_more {at} next after got read same awaited = record {
    pieces = got.pieces ++ read.0 ∷ [];
    part = part_got got.pieces read.0 got.part read.3;
    whole = got_bytes got.pieces read.0 at.bytes next.bytes got.whole read.1 ∙ sym same;
    awaited = awaited;
  }

  -- or it is whole
  pub receives_reply : {old mid new : W} {at : ResponseSoFar} (next : ResponseSoFar) {count : ℕ}
      (reply : Response × Bool)
      → GotSoFar servers connected failures steps server request old at mid
      → ReadsPiece servers connected failures steps server mid at.bytes (Ok count) new next.bytes
      → BeginsWithReply request next.bytes reply.0 reply.1
      → Receives servers connected failures steps server request old (Ok reply) new
  receives_reply {at} next reply got read is = record {
    pieces = got.pieces ++ read.0 ∷ [];
    tail = [];
    part = part_as (sym (append-nil (got_all server (got.pieces ++ read.0 ∷ []))))
        (part_got got.pieces read.0 got.part read.3);
    ends = (
      refl,
      subst (λ xs. BeginsWithReply request xs reply.0 reply.1)
          (sym (got_bytes got.pieces read.0 at.bytes next.bytes got.whole read.1)) is,
    );
  }

  -- or it never will be
  pub receives_judged : {old mid new : W} {at : ResponseSoFar} (next after : ResponseSoFar) {count : ℕ}
      (f : LinkFault)
      → GotSoFar servers connected failures steps server request old at mid
      → ReadsPiece servers connected failures steps server mid at.bytes (Ok count) new next.bytes
      → JudgesBytes request next.bytes count after (Err f)
      → Receives servers connected failures steps server request old (Err f) new
  receives_judged {at} next after {count} f got read judged = record {
    pieces = got.pieces ++ read.0 ∷ [];
    tail = [];
    part = part_as (sym (append-nil (got_all server (got.pieces ++ read.0 ∷ []))))
        (part_got got.pieces read.0 got.part read.3);
    ends =
        judged_end server request got.pieces read.0 next.bytes count after f
        (got_bytes got.pieces read.0 at.bytes next.bytes got.whole read.1) read.2 judged;
  }

  -- a read failed, or there was no memory for it
  pub receives_failed : {old mid new : W} {at : ResponseSoFar} (bytes : List ℕ) (f : LinkFault)
      → GotSoFar servers connected failures steps server request old at mid
      → ReadsPiece servers connected failures steps server mid at.bytes (Err f) new bytes
      → Receives servers connected failures steps server request old (Err f) new
  receives_failed bytes fault.TimedOut got read = record {
    pieces = got.pieces;
    tail = Failed server wire_fault.TimedOut ∷ [];
    part = part_append got.part read;
    ends = refl;
  }
  receives_failed bytes fault.Broken got read = record {
    pieces = got.pieces;
    tail = Failed server wire_fault.Other ∷ [];
    part = part_append got.part read;
    ends = λ sent. ConnectionFailed refl;
  }
  receives_failed {old} bytes fault.Memory got read = record {
    pieces = got.pieces;
    tail = [];
    part =
        part_as (sym (append-nil (got_all server got.pieces)))
        (subst
        (λ (at : W). IsPart servers connected failures steps server old
        (got_all server got.pieces) true at) (sym read) got.part);
    ends = refl;
  }
