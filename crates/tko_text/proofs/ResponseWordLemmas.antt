-- The response that a line is, as a computed test.
use Rattle.std.proofs.Common.{◌≡◌, ℕ, false, cond, List, [], ◌∷◌, length, drop, refl, ap, sym, ◌∙◌, subst, inl, inr, Option, Some, None}
use Rattle.std.specs.Prelude.{codes, option_map}
use Rattle.std.specs.Str.{bytes_eq}
use Rattle.std.proofs.lemmas.Bool.{cases_Bool, cases_lt, cond-true, cond-false, false_from_ne_true, lt-ltb, le-ltb}
use Rattle.std.proofs.lemmas.Slice.Eq.{bytes_eq-Decides}
use Rattle.tko_bytes.specs.Numbers.{number_of}
use Rattle.tko_bytes.specs.Words.{words}
use Rattle.tko_text.specs.declared.response.Response.{Response}
use Rattle.tko_text.specs.declared.response.Response.TheVariants as response
use Rattle.tko_text.specs.Limits.{number_limit}
use Rattle.tko_text.specs.ResponseLines.{Split}
use Rattle.tko_text.specs.ResponseFaults.{word_response, version_response, alone_response, line_response, value_line}
use Rattle.tko_text.specs.Responses.{Says, IsHead}

some_is_one : (a b : Response) → Some a ≡ Some b → a ≡ b
some_is_one a b e = cc

-- one of two answers, by a word
chosen : (P : Response → Type 0) (word other : List ℕ) (one rest : Option Response) (r : Response)
    → (word ≡ other → one ≡ Some r → P r) → (rest ≡ Some r → P r)
    → cond (bytes_eq word other) one rest ≡ Some r → P r
chosen P word other one rest r here later e = elim (cases_Bool (bytes_eq word other)) [
  | inl same ↦ here ((bytes_eq-Decides word other).0 same) (sym (cond-true _ _ _ same) ∙ e)
  | inr differs ↦ later (sym (cond-false _ _ _ differs) ∙ e)
]

-- the line is the response that was found
said : (line : Split) (found r : Response) → Says line found → Some found ≡ Some r → Says line r
said line found r says e = subst (λ (a : Response). Says line a) (some_is_one found r e) says

number_says : (line : Split) (found : Option ℕ) (r : Response) → words line.rest ≡ [] → number_of number_limit line.word ≡ found
    → option_map response.Number found ≡ Some r → Says line r
number_says line None r alone number e = absurd (cc)
number_says line (Some n) r alone number e = said line (response.Number n) r (number, alone) e

word_says : (line : Split) (r : Response) → words line.rest ≡ [] → word_response line.word ≡ Some r → Says line r
word_says line r alone =
    let at : (word : List ℕ) (found : Response) (rest : Option Response) → (line.word ≡ word → Says line found)
    → (rest ≡ Some r → Says line r) → cond (bytes_eq line.word word) (Some found) rest ≡ Some r → Says line r =
    λ word found rest here. chosen (λ (a : Response). Says line a) line.word word (Some found) rest r (λ same e. said line found r (here same) e) in
    at (codes "END") (response.Values None) _ (λ w. (w, alone))
    (at (codes "STORED") response.Stored _ (λ w. (w, alone))
    (at (codes "NOT_STORED") response.NotStored _ (λ w. (w, alone))
    (at (codes "EXISTS") response.Exists _ (λ w. (w, alone))
    (at (codes "DELETED") response.Deleted _ (λ w. (w, alone))
    (at (codes "TOUCHED") response.Touched _ (λ w. (w, alone))
    (at (codes "NOT_FOUND") response.NotFound _ (λ w. (w, alone))
    (at (codes "ERROR") response.Error _ (λ w. (w, alone))
    (number_says line (number_of number_limit line.word) r alone refl))))))))

alone_says : (line : Split) (following : List (List ℕ)) (r : Response) → words line.rest ≡ following
    → alone_response line.word following ≡ Some r → Says line r
alone_says line [] r is e = word_says line r is e
alone_says line (word ∷ following) r is e = absurd (cc)

version_says : (line : Split) (r : Response) → line.word ≡ codes "VERSION"
    → version_response (drop 1 line.rest) ≡ Some r → Says line r
version_says line r word e = elim (cases_lt 0 (length (drop 1 line.rest))) [
  | inl some ↦
      said line (response.Version (drop 1 line.rest)) r ((word, refl), some)
      (sym (cond-true _ _ _ (lt-ltb 0 (length (drop 1 line.rest)) some)) ∙ e)
  | inr none ↦
      let nothing : None ≡ Some r = sym (cond-false _ _ _ (le-ltb 0 (length (drop 1 line.rest)) none)) ∙ e in
      absurd (cc)
]

-- a line is the response that is found of it
pub response_says : (line : Split) (r : Response) → line_response line ≡ Some r → Says line r
unfolding line_response
response_says line r =
    let says : Response → Type 0 = λ (a : Response). Says line a in
    let text = drop 1 line.rest in
    chosen says line.word (codes "CLIENT_ERROR") _ _ r (λ w. said line (response.ClientError text) r (w, refl))
    (chosen says line.word (codes "SERVER_ERROR") _ _ r (λ w. said line (response.ServerError text) r (w, refl))
    (chosen says line.word (codes "VERSION") _ _ r (version_says line r)
    (alone_says line (words line.rest) r refl)))

-- a number is another word than this one, which is none
number_differs : (word other : List ℕ) (n : ℕ) → number_of number_limit word ≡ Some n
    → number_of number_limit other ≡ None → bytes_eq word other ≡ false
number_differs word other n number none =
    false_from_ne_true (bytes_eq word other) (λ same.
    let e : Some n ≡ None = sym number ∙ ap (number_of number_limit) ((bytes_eq-Decides word other).0 same) ∙ none in
    cc)

number_response : (line : Split) (n : ℕ) → number_of number_limit line.word ≡ Some n → words line.rest ≡ []
    → line_response line ≡ Some (response.Number n)
unfolding line_response number_of
number_response line n number alone =
    let other : (word : List ℕ) → number_of number_limit word ≡ None → bytes_eq line.word word ≡ false =
    λ word. number_differs line.word word n number in
    rw (
      other (codes "CLIENT_ERROR") refl,
      other (codes "SERVER_ERROR") refl,
      other (codes "VERSION") refl,
      alone,
      other (codes "END") refl,
      other (codes "STORED") refl,
      other (codes "NOT_STORED") refl,
      other (codes "EXISTS") refl,
      other (codes "DELETED") refl,
      other (codes "TOUCHED") refl,
      other (codes "NOT_FOUND") refl,
      other (codes "ERROR") refl,
      number,
    ) refl

-- of a line that is a response, that response is found
pub says_response : (line : Split) (r : Response) → Says line r → line_response line ≡ Some r
unfolding line_response
says_response line (response.Values None) says = rw (says.0, says.1) refl
says_response line (response.Values (Some value)) says = absurd says
says_response line (response.Listed values) says = absurd says
says_response line response.Stored says = rw (says.0, says.1) refl
says_response line response.NotStored says = rw (says.0, says.1) refl
says_response line response.Exists says = rw (says.0, says.1) refl
says_response line response.Deleted says = rw (says.0, says.1) refl
says_response line response.Touched says = rw (says.0, says.1) refl
says_response line response.NotFound says = rw (says.0, says.1) refl
says_response line (response.Number n) says = number_response line n says.0 says.1
says_response line (response.Version text) says =
    rw (says.0.0, sym says.0.1) (cond-true _ _ _ (lt-ltb 0 (length text) says.1))
says_response line response.Error says = rw (says.0, says.1) refl
says_response line (response.ClientError text) says = rw (says.0, says.1) refl
says_response line (response.ServerError text) says = rw (says.0, says.1) refl

-- a line is one response
pub says_is_one : (line : Split) (r s : Response) → Says line r → Says line s → r ≡ s
says_is_one line r s a b = some_is_one r s (sym (says_response line r a) ∙ says_response line s b)

alone_value : (following : List (List ℕ)) → alone_response (codes "VALUE") following ≡ None
unfolding number_of
alone_value [] = refl
alone_value (word ∷ following) = refl

-- the first line of a value is no response by itself
pub value_says_nothing : (rest : List ℕ) (r : Response) → Says (value_line rest) r → ⊥
unfolding line_response
value_says_nothing rest r says =
    let nothing : line_response (value_line rest) ≡ None = alone_value (words rest) in
    let e : Some r ≡ None = sym (says_response (value_line rest) r says) ∙ nothing in
    cc

-- a line that is a response announces no value
pub says_no_head : (line : Split) (key : List ℕ) (flags size : ℕ) (cas : Option ℕ) (r : Response) → Says line r
    → IsHead line key flags size cas → ⊥
says_no_head line key flags size cas r says head =
    value_says_nothing line.rest r
    (subst (λ (w : List ℕ). Says (record { word = w; rest = line.rest }) r) head.word_is says)
