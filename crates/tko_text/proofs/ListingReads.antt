-- What is read of bytes where several values were asked for.
use Rattle.std.proofs.Common.{◌≡◌, ℕ, List, [], ◌++◌, take, Bool, ap, sym, ◌∙◌, subst, inl, inr, arith, Some, None, Result, Ok, Err}
use Rattle.std.specs.Result.{MatchResult}
use Rattle.tko_text.specs.declared.response.Response.{Response}
use Rattle.tko_text.specs.declared.response.Response.TheVariants as response
use Rattle.tko_text.specs.declared.response.fault.ReadFault.{ReadFault}
use Rattle.tko_text.specs.declared.response.fault.ReadFault.TheVariants as fault
use Rattle.tko_text.specs.declared.response.place.ValuePlace.{ValuePlace}
use Rattle.tko_text.specs.ListingFaults.{ErrorFault, IsError, IsErrorLine, ListFault, NoListing, ReadsList}
use Rattle.tko_text.specs.Places.{values_in}
use Rattle.tko_text.specs.ResponseFaults.{Misses, NoneOf, ReadsOf, line_response}
use Rattle.tko_text.specs.ResponseLines.{IsSplitLine, Split, SplitsLine}
use Rattle.tko_text.specs.ResponseReads.IsCutListing.{in_line}
use Rattle.tko_text.specs.Responses.{Listing, Says, Spells, Suits}
use Rattle.tko_text.proofs.ListingTexts.{cut_is_no_line}
use Rattle.tko_text.proofs.ResponseLineLemmas.{line_is_one}
use Rattle.tko_text.proofs.ResponseWordLemmas.{response_says, says_is_one, says_response}
use Rattle.tko_text.proofs.ResponseLemmas.Opening.{by_line, by_value, by_list}
use Rattle.tko_text.proofs.ResponseLemmas.{Opening, line_fault, none_by_opening, spells_line, taken}

-- an error is a response to any request
error_suits : (keys : List (List ℕ)) (unique : Bool) (r : Response) → IsError r → Suits (Listing keys unique) r
error_suits keys unique (response.Values found) is = absurd is
error_suits keys unique (response.Listed values) is = absurd is
error_suits keys unique response.Stored is = absurd is
error_suits keys unique response.NotStored is = absurd is
error_suits keys unique response.Exists is = absurd is
error_suits keys unique response.Deleted is = absurd is
error_suits keys unique response.Touched is = absurd is
error_suits keys unique response.NotFound is = absurd is
error_suits keys unique (response.Number n) is = absurd is
error_suits keys unique (response.Version text) is = absurd is
error_suits keys unique response.Error is = tt
error_suits keys unique (response.ClientError text) is = tt
error_suits keys unique (response.ServerError text) is = tt

-- and the only one that is a line, where several values were asked for
line_is_error : (keys : List (List ℕ)) (unique : Bool) (line : Split) (r : Response) → Says line r → Suits (Listing keys unique) r → IsError r
line_is_error keys unique line (response.Values None) says suits = absurd suits
line_is_error keys unique line (response.Values (Some value)) says suits = absurd says
line_is_error keys unique line (response.Listed values) says suits = absurd says
line_is_error keys unique line response.Stored says suits = absurd suits
line_is_error keys unique line response.NotStored says suits = absurd suits
line_is_error keys unique line response.Exists says suits = absurd suits
line_is_error keys unique line response.Deleted says suits = absurd suits
line_is_error keys unique line response.Touched says suits = absurd suits
line_is_error keys unique line response.NotFound says suits = absurd suits
line_is_error keys unique line (response.Number n) says suits = absurd suits
line_is_error keys unique line (response.Version text) says suits = absurd suits
line_is_error keys unique line response.Error says suits = tt
line_is_error keys unique line (response.ClientError text) says suits = tt
line_is_error keys unique line (response.ServerError text) says suits = tt

-- the first line is no response, or not such a one
module _ (bytes : List ℕ) (line : Split) (rest : List ℕ) (split : SplitsLine bytes line rest) where
  said_here : (first more : List ℕ) (other : Split) (r : Response) → bytes ≡ first ++ more → IsSplitLine first other → Says other r → Says line r
  said_here first more other r e is says =
      let same = line_is_one split.0 first line other rest more split.1 is (sym split.2 ∙ e) in
      subst (λ (l : Split). Says l r) (sym same.1) says

  pub error_missed : (f : ReadFault) → Misses f (line_response line) → ErrorFault f bytes
  error_missed fault.Short none = absurd none
  error_missed fault.Unreadable none =
      λ first more other r e is says error.
      let found : Some r ≡ None = sym (says_response line r (said_here first more other r e is says)) ∙ none in
      absurd (cc)
  error_missed fault.Memory none = tt

  pub no_error : (r : Response) → line_response line ≡ Some r → ¬ (IsError r) → ErrorFault fault.Unreadable bytes
  no_error r found isnt first more other s e is says error =
      let same = says_is_one line s r (said_here first more other s e is says) (response_says line r found) in
      isnt (subst IsError same error)

module _ (keys : List (List ℕ)) (unique : Bool) (bytes : List ℕ) where
  -- the values that were read
  pub reads_list : (places : List ValuePlace) (len : ℕ) (text : List ℕ) → ReadsList keys unique bytes places len → text ≡ take len bytes
      → ReadsOf (Listing keys unique) bytes (Ok (response.Listed (values_in text places), len))
  reads_list places len text is e =
      subst (λ (xs : List ℕ). ReadsOf (Listing keys unique) bytes (Ok (response.Listed (values_in xs places), len))) (sym e)
      (is.within, (is.awaited, is.listing))

  -- no front of the bytes is a response, where none is a listing and none an error
  none_of_list : NoListing keys unique [] bytes → ErrorFault fault.Unreadable bytes → NoneOf (Listing keys unique) bytes
  none_of_list none unsaid = none_by_opening (Listing keys unique) bytes closed where
    closed : (front rest : List ℕ) (r : Response) → Opening front r → Suits (Listing keys unique) r → bytes ≡ front ++ rest → ⊥
    closed front rest r (by_line front' line r' is says) suits e = unsaid front rest line r e is says (line_is_error keys unique line r says suits)
    closed front rest r (by_value head line body value is is_body) suits e = suits
    closed front rest r (by_list front' values is) suits e = none front rest values e is suits

  pub reads_list_short : ListFault fault.Short keys unique [] bytes → ReadsOf (Listing keys unique) bytes (Err fault.Short)
  reads_list_short wrong = (
    inr (inr wrong.0),
    none_of_list wrong.1 (λ first rest line r e is says error. cut_is_no_line keys unique [] bytes first rest line r wrong.0 is says e),
  )

  -- where there is no listing, an error or none
  pub reads_error : ListFault fault.Unreadable keys unique [] bytes → (r : Result (Response × ℕ) ReadFault)
      → MatchResult r (λ found. IsErrorLine bytes found.0 found.1) (λ f. ErrorFault f bytes) → ReadsOf (Listing keys unique) bytes r
  reads_error wrong (Ok found) is = (
    omega (arith, is.len_is),
    (
      error_suits keys unique found.0 is.is_error,
      subst (λ (xs : List ℕ). Spells xs found.0)
          (sym (ap (λ n. take n bytes) is.len_is ∙ taken bytes is.splits.0 is.rest is.splits.2))
          (spells_line is.splits.0 is.line found.0 is.splits.1 is.says),
    ),
  )
  reads_error wrong (Err fault.Short) open_line = line_fault (Listing keys unique) bytes fault.Short open_line
  reads_error wrong (Err fault.Unreadable) unsaid = (
    λ begins. elim begins [
      | inl open_line ↦ wrong.0 (in_line keys unique [] bytes open_line)
      | inr (inl cut) ↦ cut.is_cut.asked
      | inr (inr cut) ↦ wrong.0 cut
    ],
    none_of_list wrong.1 unsaid,
  )
  reads_error wrong (Err fault.Memory) none = tt
