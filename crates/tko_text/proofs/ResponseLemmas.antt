-- What is read of bytes, from what was found of their first line and of what follows it.
use Rattle.std.proofs.Common.{◌≡◌, ◌≢◌, ℕ, ◌-◌, List, ◌++◌, length, take, drop, refl, ap, sym, ◌∙◌, subst, inl, inr, arith, Some, None, Result, Ok, Err, append_assoc, length-append}
use Rattle.std.specs.Prelude.{codes}
use Rattle.std.proofs.lemmas.List.{take_at, take-append-drop}
use Rattle.tko_text.specs.declared.request.Request.{Request}
use Rattle.tko_text.specs.declared.response.Response.{Response}
use Rattle.tko_text.specs.declared.response.Response.TheVariants as response
use Rattle.tko_text.specs.declared.response.body.Value.{Value}
use Rattle.tko_text.specs.declared.response.fault.ReadFault.{ReadFault}
use Rattle.tko_text.specs.declared.response.fault.ReadFault.TheVariants as fault
use Rattle.tko_text.specs.ResponseLines.{IsSplitLine, Split, SplitsLine}
use Rattle.tko_text.specs.Responses.{RequestKind, Suits, Says, IsBody, Spells, IsListing, request_kind}
use Rattle.tko_text.specs.ResponseReads.{IsCutBody, IsCutResponse, IsResponse, IsBeginning, NoResponse, ReadsResponse}
use Rattle.tko_text.specs.ResponseFaults.{NoneOf, ReadsOf, LineFault, Misses, NoBody, SplitsBody, BodyFault, line_response, value_line}
use Rattle.tko_text.proofs.ResponseLineLemmas.{line_is_one, open_line_has_none, overlong_has_none}
use Rattle.tko_text.proofs.ListingTexts.{listing_line, overlong_isnt_cut}
use Rattle.tko_text.proofs.RequestKindLemmas.{IsSingle, asks_value, none_cut, none_listed, same_kind, suits_value}
use Rattle.tko_text.proofs.ResponseWordLemmas.{response_says, says_response, says_is_one, value_says_nothing}

-- a response begins with a line, which is all of it, or goes on with a value's body
pub data Opening : List ℕ → Response → Type 0 where
  by_line : (front : List ℕ) (line : Split) (response : Response) → IsSplitLine front line → Says line response → Opening front response
  by_value : (head : List ℕ) (line : Split) (body : List ℕ) (value : Value) → IsSplitLine head line → IsBody line body value
      → Opening (head ++ body) (response.Values (Some value))
  by_list : (front : List ℕ) (values : List Value) → IsListing front values → Opening front (response.Listed values)

pub opening : (front : List ℕ) (r : Response) → Spells front r → Opening front r
opening front (response.Values (Some value)) spells =
    subst (λ (xs : List ℕ). Opening xs (response.Values (Some value))) (sym spells.whole)
    (by_value spells.head spells.line spells.body value spells.is_line spells.is_body)
opening front (response.Values None) spells = by_line front spells.line (response.Values None) spells.is_line spells.says
opening front (response.Listed values) spells = by_list front values spells
opening front response.Stored spells = by_line front spells.line response.Stored spells.is_line spells.says
opening front response.NotStored spells = by_line front spells.line response.NotStored spells.is_line spells.says
opening front response.Exists spells = by_line front spells.line response.Exists spells.is_line spells.says
opening front response.Deleted spells = by_line front spells.line response.Deleted spells.is_line spells.says
opening front response.Touched spells = by_line front spells.line response.Touched spells.is_line spells.says
opening front response.NotFound spells = by_line front spells.line response.NotFound spells.is_line spells.says
opening front (response.Number n) spells = by_line front spells.line (response.Number n) spells.is_line spells.says
opening front (response.Version text) spells = by_line front spells.line (response.Version text) spells.is_line spells.says
opening front response.Error spells = by_line front spells.line response.Error spells.is_line spells.says
opening front (response.ClientError text) spells = by_line front spells.line (response.ClientError text) spells.is_line spells.says
opening front (response.ServerError text) spells = by_line front spells.line (response.ServerError text) spells.is_line spells.says

-- a line that is a response spells it
pub spells_line : (front : List ℕ) (line : Split) (r : Response) → IsSplitLine front line → Says line r → Spells front r
spells_line front line (response.Values (Some value)) is says = absurd says
spells_line front line (response.Values None) is says = record { line = line; is_line = is; says = says }
spells_line front line (response.Listed values) is says = absurd says
spells_line front line response.Stored is says = record { line = line; is_line = is; says = says }
spells_line front line response.NotStored is says = record { line = line; is_line = is; says = says }
spells_line front line response.Exists is says = record { line = line; is_line = is; says = says }
spells_line front line response.Deleted is says = record { line = line; is_line = is; says = says }
spells_line front line response.Touched is says = record { line = line; is_line = is; says = says }
spells_line front line response.NotFound is says = record { line = line; is_line = is; says = says }
spells_line front line (response.Number n) is says = record { line = line; is_line = is; says = says }
spells_line front line (response.Version text) is says = record { line = line; is_line = is; says = says }
spells_line front line response.Error is says = record { line = line; is_line = is; says = says }
spells_line front line (response.ClientError text) is says = record { line = line; is_line = is; says = says }
spells_line front line (response.ServerError text) is says = record { line = line; is_line = is; says = says }

-- the front that a rest leaves
pub taken : (bytes front rest : List ℕ) → bytes ≡ front ++ rest → take (length bytes - length rest) bytes ≡ front
taken bytes front rest e = ap (take (length bytes - length rest)) e ∙ take_at front rest (length bytes - length rest) (omega (arith, ap length e, length-append front rest))

-- no front of the bytes is a response, where no opening is
pub none_by_opening : (kind : RequestKind) (bytes : List ℕ)
    → ((front rest : List ℕ) (r : Response) → Opening front r → Suits kind r → bytes ≡ front ++ rest → ⊥) → NoneOf kind bytes
none_by_opening kind bytes none n r le is =
    none (take n bytes) (drop n bytes) r (opening (take n bytes) r is.1) is.0 (sym (take-append-drop n bytes))

module _ (kind : RequestKind) (bytes : List ℕ) where
  -- where no front is a line, none is a response
  no_line : ((a : List ℕ) (s : Split) (x : List ℕ) → IsSplitLine a s → bytes ≡ a ++ x → ⊥) → NoneOf kind bytes
  no_line none = none_by_opening kind bytes no_opening where
    no_opening : (front rest : List ℕ) (r : Response) → Opening front r → Suits kind r → bytes ≡ front ++ rest → ⊥
    no_opening front rest r (by_line front' line r' is says) suits e = none front line rest is e
    no_opening front rest r (by_value head line body value is is_body) suits e = none head line (body ++ rest) is (e ∙ append_assoc head body rest)
    no_opening front rest r (by_list front' values listing) suits e =
        let first = listing_line front values listing in
        none first.0 first.1 (first.2 ++ rest) first.3 (e ∙ ap (λ xs. xs ++ rest) first.4 ∙ append_assoc first.0 first.2 rest)

  pub line_fault : (f : ReadFault) → LineFault f bytes → ReadsOf kind bytes (Err f)
  line_fault fault.Short open_line = (inl open_line, no_line (λ a s x line e. open_line_has_none bytes a s x open_line line e))
  line_fault fault.Unreadable overlong = (
    λ begins. elim begins [
      | inl open_line ↦ omega (arith, overlong.many, open_line.few)
      | inr (inl cut) ↦ overlong_has_none bytes cut.head cut.line cut.body overlong cut.is_line cut.whole
      | inr (inr cut) ↦ overlong_isnt_cut kind bytes overlong cut
    ],
    no_line (λ a s x line e. overlong_has_none bytes a s x overlong line e),
  )
  line_fault fault.Memory none = absurd none

module _ (kind : RequestKind) (single : IsSingle kind) (bytes : List ℕ) (line : Split) (rest : List ℕ) (split : SplitsLine bytes line rest) where
  -- no response that the kind can have is the line, and none goes on from it
  none_of_line : ((r : Response) → Says line r → Suits kind r → ⊥) → NoBody kind line rest → NoneOf kind bytes
  none_of_line unsaid none = none_by_opening kind bytes closed where
    closed : (front later : List ℕ) (r : Response) → Opening front r → Suits kind r → bytes ≡ front ++ later → ⊥
    closed front later r (by_line front' line' r' is says) suits e =
        let same = line_is_one split.0 front line line' rest later split.1 is (sym split.2 ∙ e) in
        unsaid r (subst (λ (xs : Split). Says xs r) (sym same.1) says) suits
    closed front later r (by_value head line' body value is is_body) suits e =
        let same = line_is_one split.0 head line line' rest (body ++ later) split.1 is (sym split.2 ∙ e ∙ append_assoc head body later) in
        none body later value same.2 (subst (λ (xs : Split). IsBody xs body value) (sym same.1) is_body) (asks_value kind value suits)
    closed front later r (by_list front' values listing) suits e = none_listed kind values single suits

  -- the fault of what follows the line is that of the bytes
  body_fault : (f : ReadFault) → ((r : Response) → Says line r → Suits kind r → ⊥) → BodyFault f kind line rest → ReadsOf kind bytes (Err f)
  body_fault fault.Short unsaid cut = (
    inr (inl (record { head = split.0; line = line; body = rest; whole = split.2; is_line = split.1; is_cut = cut.0 })),
    none_of_line unsaid cut.1,
  )
  body_fault fault.Unreadable unsaid wrong = (
    λ begins. elim begins [
      | inl open_line ↦ open_line_has_none bytes split.0 line rest open_line split.1 split.2
      | inr (inr cut) ↦ none_cut kind bytes single cut
      | inr (inl cut) ↦
          let same = line_is_one split.0 cut.head line cut.line rest cut.body split.1 cut.is_line (sym split.2 ∙ cut.whole) in
          wrong.0 (subst (λ (xs : List ℕ). IsCutBody kind line xs) (sym same.2) (subst (λ (xs : Split). IsCutBody kind xs cut.body) (sym same.1) cut.is_cut))
    ],
    none_of_line unsaid wrong.1,
  )
  body_fault fault.Memory unsaid none = tt

  -- a line that is no response which the kind can have, and no value's
  other_line : line.word ≢ codes "VALUE" → ((r : Response) → Says line r → Suits kind r → ⊥) → ReadsOf kind bytes (Err fault.Unreadable)
  other_line other unsaid = body_fault fault.Unreadable unsaid (
    λ cut. other cut.is_head.word_is,
    λ body more found e is asked. other is.is_head.word_is,
  )

  pub line_missed : (f : ReadFault) → line.word ≢ codes "VALUE" → Misses f (line_response line) → ReadsOf kind bytes (Err f)
  line_missed fault.Short other none = absurd none
  line_missed fault.Unreadable other none =
      other_line other (λ r says. λ _. let e : Some r ≡ None = sym (says_response line r says) ∙ none in cc)
  line_missed fault.Memory other none = tt

  -- the line is a response that the kind cannot have
  pub line_unsuited : (r : Response) → line.word ≢ codes "VALUE" → line_response line ≡ Some r → ¬ (Suits kind r) → ReadsOf kind bytes (Err fault.Unreadable)
  line_unsuited r other found unsuited =
      other_line other (λ s says suits. unsuited (subst (λ (a : Response). Suits kind a) (says_is_one line s r says (response_says line r found)) suits))

  pub reads_line : (r : Response) → line_response line ≡ Some r → Suits kind r → ReadsOf kind bytes (Ok (r, length bytes - length rest))
  reads_line r found suits = (
    omega arith,
    (suits, subst (λ (xs : List ℕ). Spells xs r) (sym (taken bytes split.0 rest split.2)) (spells_line split.0 line r split.1 (response_says line r found))),
  )

module _ (kind : RequestKind) (single : IsSingle kind) (bytes arguments rest : List ℕ) (split : SplitsLine bytes (value_line arguments) rest) where
  pub value_fault : (f : ReadFault) → BodyFault f kind (value_line arguments) rest → ReadsOf kind bytes (Err f)
  value_fault f wrong = body_fault kind single bytes (value_line arguments) rest split f (λ r says. λ _. value_says_nothing arguments r says) wrong

  pub reads_value : (more : List ℕ) (value : Value) → SplitsBody kind (value_line arguments) rest value more
      → ReadsOf kind bytes (Ok (response.Values (Some value), length bytes - length more))
  reads_value more value goes =
      let whole : bytes ≡ (split.0 ++ goes.0) ++ more = split.2 ∙ ap (λ xs. split.0 ++ xs) goes.1 ∙ sym (append_assoc split.0 goes.0 more) in (
        omega arith,
        (
          suits_value kind value goes.3,
          subst (λ (xs : List ℕ). Spells xs (response.Values (Some value))) (sym (taken bytes (split.0 ++ goes.0) more whole))
              (record { head = split.0; line = value_line arguments; body = goes.0; whole = refl; is_line = split.1; is_body = goes.2 }),
        ),
      )

-- the line whose first word is `VALUE`
pub value_split : (bytes word arguments rest : List ℕ) → word ≡ codes "VALUE" → SplitsLine bytes (record { word = word; rest = arguments }) rest → SplitsLine bytes (value_line arguments) rest
value_split bytes word arguments rest same split = subst (λ (w : List ℕ). SplitsLine bytes (record { word = w; rest = arguments }) rest) same split

module _ (request : Request) (kind : RequestKind) (bytes : List ℕ) (of : request_kind request ≡ Some kind) where
  none_asked : NoneOf kind bytes → NoResponse request bytes
  unfolding NoResponse IsResponse
  none_asked none n r le is = none n r le (subst (λ (k : RequestKind). Suits k r) (same_kind request kind is.0 of is.1) is.2, is.3)

  none_begun : ¬ (IsCutResponse kind bytes) → ¬ (IsBeginning request bytes)
  unfolding IsBeginning
  none_begun none begins = none (subst (λ (k : RequestKind). IsCutResponse k bytes) (same_kind request kind begins.0 of begins.1) begins.2)

  -- what is read for a request is what is read for its kind
  pub reads_kind : (result : Result (Response × ℕ) ReadFault) → ReadsOf kind bytes result → ReadsResponse request bytes result
  unfolding ReadsResponse IsResponse IsBeginning
  reads_kind (Ok found) is = (is.0, (kind, of, is.1.0, is.1.1))
  reads_kind (Err fault.Short) is = ((kind, of, is.0), none_asked is.1)
  reads_kind (Err fault.Unreadable) is = (none_begun is.0, none_asked is.1)
  reads_kind (Err fault.Memory) is = tt

-- a request that is never sent has no response
pub reads_unsent : (request : Request) (bytes : List ℕ) → request_kind request ≡ None → ReadsResponse request bytes (Err fault.Unreadable)
unfolding ReadsResponse IsResponse IsBeginning NoResponse
reads_unsent request bytes none =
    let nothing : (kind : RequestKind) → request_kind request ≡ Some kind → ⊥ = λ kind is. let e : Some kind ≡ None = sym is ∙ none in cc in
    (λ begins. nothing begins.0 begins.1, λ n r le is. nothing is.0 is.1)
