-- The replies of a session, which are written piece by piece.
use Rattle.std.proofs.Common.{◌≡◌, ◌≢◌, ℕ, ◌+◌, ◌<◌, ◌≤◌, List, [], ◌++◌, length, length-append}
use Rattle.std.proofs.Common.{length-drop, take, drop, refl, sym, ap, ◌∙◌, subst, arith}
use Rattle.std.proofs.Common.{append_assoc, append-nil}
use Rattle.std.proofs.lemmas.List.{drop_at, take-append-le}
use Rattle.std.proofs.Math.Seq.{take-append-add}
use Rattle.tko_io.specs.Io.{Writes, WritesPart}
use Rattle.tko_io.specs.declared.io.Outlet.{Ghosts as OutletGhosts}
use Rattle.tko_io.proofs.WriteLemmas.{writes_append, writes_none}
use Rattle.tko_reply.specs.Answering.{Extends}
use Rattle.tko_session.specs.SessionState.{SessionState}

-- a session whose replies are written, the writer, and how many bytes were written to it
pub record Writing (O : Type 0) : Type 0 where
  pub state : SessionState
  pub writer : O
  pub written : ℕ

abbrev pub writing : {O : Type 0} → SessionState → O → ℕ → Writing O
writing state writer written = record { state = state; writer = writer; written = written }

-- a part of a text that is not all of it leaves some
pub left_over : (count : ℕ) (text : List ℕ) → count < length text → drop count text ≢ []
left_over count text within = λ none. omega (arith, within, length-drop count text, ap length none)

-- the front of the replies was written, and the others wait
pub record WrittenSoFar {O : Type 0} (outlet : OutletGhosts O) (old new : Writing O) : Type 0 where
  pub front : List ℕ
  pub whole : old.state.outbox ≡ front ++ new.state.outbox
  pub wrote : Writes outlet.takes (old.writer, old.written) front (new.writer, new.written)
  pub others : new.state ≡ record old.state { outbox = new.state.outbox }
  pub calm : outlet.failures new.writer ≡ outlet.failures old.writer

module _ {O : Type 0} (outlet : OutletGhosts O)
    (goes_on : (x y z : O) (bytes more : List ℕ) → outlet.takes x bytes y → outlet.takes y more z
    → outlet.takes x (bytes ++ more) z) where
  pub written_none : (at : Writing O) → outlet.takes at.writer [] at.writer
      → WrittenSoFar outlet at at
  written_none at nothing = record {
    front = [];
    whole = refl;
    wrote = writes_none at.writer at.written nothing;
    others = refl;
    calm = refl;
  }

  -- the next piece was written
  pub written_more : {old mid new : Writing O} (piece : List ℕ) → WrittenSoFar outlet old mid
      → Extends piece mid.state.outbox
      → Writes outlet.takes (mid.writer, mid.written) piece (new.writer, new.written)
      → outlet.failures new.writer ≡ outlet.failures mid.writer
      → new.state ≡ record mid.state { outbox = drop (length piece) mid.state.outbox }
      → WrittenSoFar outlet old new
  written_more {old} {mid} {new} piece before front wrote calm is =
      let rest : new.state.outbox ≡ front.more =
      ap (λ (s : SessionState). s.outbox) is ∙ ap (drop (length piece)) front.is
      ∙ drop_at piece front.more (length piece) refl in
      record {
        front = before.front ++ piece;
        whole =
            before.whole
            ∙ ap (λ xs. before.front ++ xs) (front.is ∙ ap (λ xs. piece ++ xs) (sym rest))
            ∙ sym (append_assoc before.front piece new.state.outbox);
        wrote = writes_append goes_on before.wrote wrote;
        others =
            is ∙ ap (λ (s : SessionState).
            record s { outbox = drop (length piece) mid.state.outbox }) before.others
            ∙ ap (λ (xs : List ℕ). record old.state { outbox = xs })
            (sym (ap (λ (s : SessionState). s.outbox) is));
        calm = calm ∙ before.calm;
      }

  -- all of them were written
  pub written_all : {old new : Writing O} → WrittenSoFar outlet old new → new.state.outbox ≡ []
      → Writes outlet.takes (old.writer, old.written) old.state.outbox (new.writer, new.written)
  written_all {old} {new} before none =
      let whole : before.front ≡ old.state.outbox =
      sym (append-nil before.front) ∙ ap (λ xs. before.front ++ xs) (sym none) ∙ sym before.whole in
      subst (λ xs. Writes outlet.takes (old.writer, old.written) xs (new.writer, new.written)) whole
      before.wrote

  -- the writer failed within a piece
  pub written_part : {old mid : Writing O} {writer : O} {written : ℕ} (piece : List ℕ)
      → WrittenSoFar outlet old mid
      → Extends piece mid.state.outbox
      → WritesPart outlet.takes (mid.writer, mid.written) piece (writer, written)
      → WritesPart outlet.takes (old.writer, old.written) old.state.outbox (writer, written)
  written_part {old} {mid} {writer} {written} piece before front part =
      let whole : old.state.outbox ≡ before.front ++ (piece ++ front.more) =
      before.whole ∙ ap (λ xs. before.front ++ xs) front.is in
      let least : part.count ≤ length piece = omega (arith, part.within) in
      let taken : before.front ++ take part.count piece
      ≡ take (length before.front + part.count) old.state.outbox =
      ap (λ xs. before.front ++ xs) (sym (take-append-le part.count piece front.more least))
      ∙ sym (take-append-add before.front (piece ++ front.more) part.count)
      ∙ ap (take (length before.front + part.count)) (sym whole) in
      record {
        count = length before.front + part.count;
        within = omega (
          arith,
          part.within,
          ap length whole,
          length-append before.front (piece ++ front.more),
          length-append piece front.more,
        );
        front =
            subst (λ xs. Writes outlet.takes (old.writer, old.written) xs (writer, written)) taken
            (writes_append goes_on before.wrote part.front);
      }
