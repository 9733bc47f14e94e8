-- A list of keys that is read and counted piece by piece.
use Rattle.std.proofs.Common.{ℕ, List, [], ◌++◌, Option, append-nil, append_assoc, subst, sym}
use Rattle.std.proofs.KnownBytes.{Consumes-nil, Consumes-trans}
use Rattle.tko_explain.specs.KeyCounting.{IsCountedOver}
use Rattle.tko_explain.specs.declared.key_counts.KeyCounts.{KeyCounts}
use Rattle.tko_commands.specs.KeyLists.{AreCountedOn, HasTaken, HasTakenAll, loses}

-- nothing was counted
counted_none : (counts : KeyCounts) → AreCountedOn counts counts []
counted_none counts = record {
  on = λ json against list before.
      subst (λ it. IsCountedOver json against it counts) (sym (append-nil list)) before;
}

-- some bytes were counted, and then more
counted_more : (old middle new : KeyCounts) (bytes more : List ℕ) → AreCountedOn old middle bytes
    → AreCountedOn middle new more → AreCountedOn old new (bytes ++ more)
counted_more old middle new bytes more first second = record {
  on = λ json against list before.
      subst (λ it. IsCountedOver json against it new) (append_assoc list bytes more)
      (second.on json against (list ++ bytes) (first.on json against list before));
}

-- nothing was read
pub taken_none : {I : Type 0} (gives : I → List ℕ → I → Type 0) (nothing : (x : I) → gives x [] x)
    (at : I) (counts : KeyCounts) → HasTaken gives at at counts counts
taken_none gives nothing at counts = record {
  bytes = [];
  came = nothing at;
  counted = counted_none counts;
}

-- a piece was read, and then the next
pub taken_more : {I : Type 0} (gives : I → List ℕ → I → Type 0)
    (goes_on : (x y z : I) (bytes more : List ℕ) → gives x bytes y → gives y more z → gives x (bytes ++ more) z)
    (from middle to : I) (old between new : KeyCounts) → HasTaken gives from middle old between
    → HasTaken gives middle to between new → HasTaken gives from to old new
taken_more gives goes_on from middle to old between new first second = record {
  bytes = first.bytes ++ second.bytes;
  came = goes_on from middle to first.bytes second.bytes first.came second.came;
  counted = counted_more old between new first.bytes second.bytes first.counted second.counted;
}

-- what was read is all
pub taken_all : {I : Type 0} (gives : I → List ℕ → I → Type 0) (is_ended : I → Type 0) (from to : I)
    (old new : KeyCounts) → HasTaken gives from to old new → is_ended to
    → HasTakenAll gives is_ended from to old new
taken_all gives is_ended from to old new taken ended = record {
  list = taken.bytes;
  came = taken.came;
  ended = ended;
  counted = taken.counted;
}

-- nothing and more of a file
pub loses_none : {F : Type 0} (left : F → Option (List ℕ)) (file : F) → loses left file [] file
loses_none left file = Consumes-nil (left file)

pub loses_more : {F : Type 0} (left : F → Option (List ℕ)) (x y z : F) (bytes more : List ℕ)
    → loses left x bytes y → loses left y more z → loses left x (bytes ++ more) z
loses_more left x y z bytes more first second =
    Consumes-trans (left x) (left y) (left z) bytes more first second
