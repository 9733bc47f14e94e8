-- What was read, and nothing after it.
use Rattle.std.proofs.Common.{◌≡◌, ℕ, List, [], ◌++◌, append-nil, subst, take}

pub nothing_more : {I : Type 0} (gives : I → List ℕ → I → Type 0)
    → ((x y z : I) (bytes more : List ℕ) → gives x bytes y → gives y more z → gives x (bytes ++ more) z)
    → (start old new : I) (bytes : List ℕ) → gives start bytes old → gives old [] new → gives start bytes new
nothing_more gives goes_on start old new bytes front none =
    subst (λ text. gives start text new) (append-nil bytes) (goes_on start old new bytes [] front none)

-- the same where the front of a buffer was read, and it is empty
pub nothing_of : {I : Type 0} (gives : I → List ℕ → I → Type 0)
    → ((x y z : I) (bytes more : List ℕ) → gives x bytes y → gives y more z → gives x (bytes ++ more) z)
    → (start old new : I) (bytes buffer : List ℕ) (count : ℕ) → count ≡ 0 → gives start bytes old
    → gives old (take count buffer) new → gives start bytes new
nothing_of gives goes_on start old new bytes buffer count zero front none =
    nothing_more gives goes_on start old new bytes front (subst (λ n. gives old (take n buffer) new) zero none)
