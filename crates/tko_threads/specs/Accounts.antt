-- What a worker's account is given: of each kind the number that was counted, in the book and in
-- its share, or nothing of it where the ledger is full.
use Rattle.std.specs.Prelude.{◌≡◌, Bool, true, false, List, [], ◌∷◌}
use Rattle.tko_model.specs.Numbers.{number_of_kind}
use Rattle.tko_model.specs.declared.counts.Counts.{Counts}
use Rattle.tko_model.specs.declared.kind.Kind.{Kind}
use Rattle.tko_model.specs.declared.kind.Kind.TheVariants.{Request, Attempt, Skip, Reply, NoServer, Probe}
use Rattle.tko_desk.specs.Ledger.{IsAdded, IsTooMany}
use Rattle.tko_desk.specs.declared.book.Book.{Book}
use Rattle.tko_desk.specs.declared.book.Share.{Share}
use Rattle.tko_model.specs.Records.{Gains}

-- every kind, in the order in which they are counted
abbrev pub all_kinds : List Kind
all_kinds = Request ∷ Attempt ∷ Skip ∷ Reply ∷ NoServer ∷ Probe ∷ []

-- the book and a worker's share, and whether they were full for a kind so far
pub record Ledger : Type 0 where
  pub book : Book
  pub share : Share
  pub full : Bool

abbrev pub ledger : Book → Share → Bool → Ledger
ledger book share full = record { book = book; share = share; full = full }

-- what was counted of a kind was added: all of it, or nothing where a sum would be too great
pub data IsCounted (counts : Counts) (old : Ledger) (kind : Kind) (new : Ledger) : Type 0 where
  Added : ¬ IsTooMany kind (number_of_kind kind counts) old.book old.share
      → IsAdded kind (number_of_kind kind counts) old.book old.share new.book new.share
      → new.full ≡ old.full → IsCounted counts old kind new
  Refused : IsTooMany kind (number_of_kind kind counts) old.book old.share
      → new ≡ record old { full = true } → IsCounted counts old kind new

-- so it was with each kind
abbrev pub AreCounted : Counts → Ledger → Ledger → Type 0
AreCounted counts old new = Gains (IsCounted counts) old all_kinds new

-- the share of an account was given these counts, and the ledger was full for a kind or not. What
-- the book has, no account knows: it is under a lock.
pub record IsGiven (counts : Counts) (old : Share) (full : Bool) (new : Share) : Type 0 where
  pub book : Book
  pub book_left : Book
  pub counted : AreCounted counts (ledger book old false) (ledger book_left new full)
