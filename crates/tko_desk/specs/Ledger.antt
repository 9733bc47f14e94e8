-- A ledger: a book of totals, and the shares of the workers that counted them.
use Rattle.std.specs.Prelude.{◌≡◌, ℕ, zero, suc, ◌+◌, ◌<◌, ◌⊎◌, Bool, ◌==◌, List, [], ◌∷◌, ◌++◌, All, length}
use Rattle.std.specs.List.{count_by, sum_by}
use Rattle.tko_model.specs.Numbers.{most, no_counts, number_of_kind, raised}
use Rattle.tko_model.specs.declared.counts.Counts.{Counts}
use Rattle.tko_model.specs.declared.kind.Kind.{Kind}
use Rattle.tko_desk.specs.declared.book.Book.{Book}
use Rattle.tko_desk.specs.declared.book.Share.{Share}

-- the share of a place in a ledger of this name, before anything was counted
abbrev pub fresh_share : ℕ → ℕ → Share
fresh_share name place = record { name = name; place = place; counts = no_counts }

-- the shares of the first n places, in order
abbrev pub fresh_shares : ℕ → ℕ → List Share
fresh_shares name zero = []
fresh_shares name (suc n) = fresh_shares name n ++ fresh_share name n ∷ []

-- a ledger that was opened: a share for each place below their number, in order
pub record IsLedgerOpened (name shares : ℕ) (book : Book) (list : List Share) : Type 0 where
  pub book_is : book ≡ record { name = name; shares = shares; totals = no_counts }
  pub list_is : list ≡ fresh_shares name shares

-- the book or the share has counted the greatest number of the kind, and counts no more
abbrev pub IsFull : Kind → Book → Share → Type 0
IsFull kind book share =
    (number_of_kind kind book.totals ≡ most) ⊎ (number_of_kind kind share.counts ≡ most)

-- the book or the share would come to more of the kind than is counted, with `by` more
abbrev pub IsTooMany : Kind → ℕ → Book → Share → Type 0
IsTooMany kind by book share =
    (most < number_of_kind kind book.totals + by) ⊎ (most < number_of_kind kind share.counts + by)

-- `by` more of the kind in the book and in the share, and nothing else
pub record IsAdded (kind : Kind) (by : ℕ) (book : Book) (share : Share) (book' : Book)
    (share' : Share) : Type 0 where
  pub in_book : book' ≡ record book { totals = raised kind by book.totals }
  pub in_share : share' ≡ record share { counts = raised kind by share.counts }

-- whether a share has this place
abbrev pub is_at : ℕ → Share → Bool
is_at place share = share.place == place

-- how many of a kind all shares counted
abbrev pub sum_of : Kind → List Share → ℕ
sum_of kind shares = sum_by (λ share. number_of_kind kind share.counts) shares

-- each place below this number has one share
unfoldable pub HasEachPlace : ℕ → List Share → Type 0
HasEachPlace number list = (place : ℕ) → place < number → count_by (is_at place) list ≡ 1

-- the shares add up to these numbers
unfoldable pub HasSums : Counts → List Share → Type 0
HasSums totals list = (kind : Kind) → sum_of kind list ≡ number_of_kind kind totals

-- these are the shares of the book: each bears its name, there are as many as it was opened with,
-- each place has one, and they add up to its totals
pub record IsWhole (book : Book) (list : List Share) : Type 0 where
  pub names : All (λ share. share.name ≡ book.name) list
  pub number : length list ≡ book.shares
  pub places : HasEachPlace book.shares list
  pub sums : HasSums book.totals list
