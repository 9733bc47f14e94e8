-- What follows the first line of a value: its data, and the line `END`.
use Rattle.std.proofs.Common.{◌≡◌, ℕ, ◌+◌, ◌-◌, ◌≤◌, List, [], ◌∷◌, ◌++◌, length, take, drop, get_or, refl, ap, sym, ◌∙◌, subst, inl, inr, arith, Option, Some, None, append_assoc, length-append}
use Rattle.std.specs.Prelude.{codes}
use Rattle.std.proofs.lemmas.List.{take_at, drop_at, get_or_at}
use Rattle.tko_text.specs.declared.response.body.Value.{Value}
use Rattle.tko_text.specs.declared.response.fault.ReadFault.{ReadFault}
use Rattle.tko_text.specs.declared.response.reader.Head.{Head}
use Rattle.tko_text.specs.declared.response.fault.ReadFault.TheVariants as fault
use Rattle.tko_bytes.specs.Numbers.{number_of}
use Rattle.tko_text.specs.Heads.{value_of}
use Rattle.tko_text.specs.Limits.{number_limit}
use Rattle.tko_text.specs.ResponseLines.{IsOpenLine, IsNumber, Split, SplitsLine}
use Rattle.tko_text.specs.Responses.{RequestKind, Retrieval, Asks, IsOneWord, IsCas, IsHead, IsBody, block}
use Rattle.tko_text.specs.ResponseReads.{IsCutData}
use Rattle.tko_text.specs.ResponseFaults.{NoHead, DataFault, EndFault, SplitsEnd, SplitsBody, BodyFault}
use Rattle.tko_text.proofs.ResponseLineLemmas.{line_is_one, open_line_has_none, overlong_has_none}

number_is_one : (limit : ℕ) (word other : List ℕ) (n k : ℕ) → IsNumber limit word n → IsNumber limit other k → word ≡ other → n ≡ k
number_is_one limit word other n k a b e =
    let one : Some n ≡ Some k = sym a ∙ ap (number_of limit) e ∙ b in cc

cas_is_one : (found : List (List ℕ)) (cas other : Option ℕ) → IsCas found cas → IsCas found other → cas ≡ other
cas_is_one found None None a b = refl
cas_is_one found None (Some n) a b = let e : [] ≡ b.0 ∷ [] = sym a ∙ b.1 in absurd (cc)
cas_is_one found (Some n) None a b = let e : a.0 ∷ [] ≡ [] = sym a.1 ∙ b in absurd (cc)
cas_is_one found (Some n) (Some k) a b =
    let e : a.0 ∷ [] ≡ b.0 ∷ [] = sym a.1 ∙ b.1 in
    let words : a.0 ≡ b.0 = cc in
    ap Some (number_is_one number_limit a.0 b.0 n k a.2 b.2 words)

-- a line announces one value at most
pub head_is_one : (line : Split) (key other : List ℕ) (flags f size s : ℕ) (cas c : Option ℕ)
    → IsHead line key flags size cas → IsHead line other f s c
    → (key ≡ other) × (flags ≡ f) × (size ≡ s) × (cas ≡ c)
head_is_one line key other flags f size s cas c a b =
    let e : key ∷ a.flags_word ∷ a.size_word ∷ a.cas_words ≡ other ∷ b.flags_word ∷ b.size_word ∷ b.cas_words = sym a.words_are ∙ b.words_are in
    let keys : key ≡ other = cc in
    let flags_words : a.flags_word ≡ b.flags_word = cc in
    let size_words : a.size_word ≡ b.size_word = cc in
    let cas_words : a.cas_words ≡ b.cas_words = cc in (
      keys,
      number_is_one _ _ _ _ _ a.flags_are b.flags_are flags_words,
      number_is_one _ _ _ _ _ a.size_is b.size_is size_words,
      cas_is_one b.cas_words cas c (subst (λ (ws : List (List ℕ)). IsCas ws cas) cas_words a.cas_is) b.cas_is,
    )

pub block_then : (found more : List ℕ) → block found ++ more ≡ found ++ 13 ∷ 10 ∷ more
block_then found more = append_assoc found (13 ∷ 10 ∷ []) more

-- data of one size is one
pub data_is_one : (a b x y : List ℕ) → length a ≡ length b → block a ++ x ≡ block b ++ y → (a ≡ b) × (x ≡ y)
data_is_one a b x y len e =
    let flat : a ++ 13 ∷ 10 ∷ x ≡ b ++ 13 ∷ 10 ∷ y = sym (block_then a x) ∙ e ∙ block_then b y in
    let fronts : a ≡ b = sym (take_at a (13 ∷ 10 ∷ x) (length b) len) ∙ ap (take (length b)) flat ∙ take_at b (13 ∷ 10 ∷ y) (length b) refl in
    let rests : 13 ∷ 10 ∷ x ≡ 13 ∷ 10 ∷ y = sym (drop_at a (13 ∷ 10 ∷ x) (length b) len) ∙ ap (drop (length b)) flat ∙ drop_at b (13 ∷ 10 ∷ y) (length b) refl in
    let tails : x ≡ y = cc in
    (fronts, tails)

cut_data_short : (size : ℕ) (bytes : List ℕ) → IsCutData size bytes → length bytes ≤ size + 1
cut_data_short size bytes cut = elim cut [
  | inl short ↦ omega (arith, short)
  | inr found ↦ omega (arith, ap length found.2, length-append found.0 (13 ∷ []), found.1)
]

data_long : (bytes found more : List ℕ) → bytes ≡ block found ++ more → length found + 2 ≤ length bytes
data_long bytes found more e =
    let flat : bytes ≡ found ++ 13 ∷ 10 ∷ more = e ∙ block_then found more in
    omega (arith, ap length flat, length-append found (13 ∷ 10 ∷ more))

-- data that is cut short is followed by no CR LF
pub cut_data_has_none : (size : ℕ) (bytes found more : List ℕ) → IsCutData size bytes → bytes ≡ block found ++ more → length found ≡ size → ⊥
cut_data_has_none size bytes found more cut e len = omega (arith, cut_data_short size bytes cut, data_long bytes found more e)

pub wrong_data_has_none : (size : ℕ) (bytes found more : List ℕ) → DataFault fault.Unreadable size bytes → bytes ≡ block found ++ more → length found ≡ size → ⊥
wrong_data_has_none size bytes found more wrong e len =
    let flat : bytes ≡ found ++ 13 ∷ 10 ∷ more = e ∙ block_then found more in
    let late : bytes ≡ (found ++ 13 ∷ []) ++ 10 ∷ more = flat ∙ sym (append_assoc found (13 ∷ []) (10 ∷ more)) in
    elim wrong [
      | inl cr ↦ cr.1 (ap (λ xs. get_or xs size 0) flat ∙ get_or_at found 13 (10 ∷ more) 0 size len)
      | inr lf ↦ lf.1 (ap (λ xs. get_or xs (size + 1) 0) late ∙ get_or_at (found ++ 13 ∷ []) 10 more 0 (size + 1) (omega (arith, length-append found (13 ∷ []), len)))
    ]

pub wrong_data_isnt_cut : (size : ℕ) (bytes : List ℕ) → DataFault fault.Unreadable size bytes → IsCutData size bytes → ⊥
wrong_data_isnt_cut size bytes wrong cut = elim wrong [
  | inl cr ↦ elim cut [
    | inl short ↦ omega (arith, short, cr.0)
    | inr found ↦ cr.1 (ap (λ xs. get_or xs size 0) found.2 ∙ get_or_at found.0 13 [] 0 size found.1)
  ]
  | inr lf ↦ omega (arith, cut_data_short size bytes cut, lf.0)
]

pub end_fault_isnt_open : (rest : List ℕ) → EndFault fault.Unreadable rest → IsOpenLine rest → ⊥
end_fault_isnt_open rest wrong open_line = elim wrong [
  | inl overlong ↦ omega (arith, overlong.many, open_line.few)
  | inr other ↦ open_line_has_none rest other.2.0 other.0 other.1 open_line other.2.1 other.2.2
]

pub end_fault_has_none : (f : ReadFault) (rest more : List ℕ) → EndFault f rest → SplitsEnd rest more → ⊥
end_fault_has_none fault.Short rest more open_line is = open_line_has_none rest is.0 is.1.line more open_line is.1.is_line is.2
end_fault_has_none fault.Unreadable rest more wrong is = elim wrong [
  | inl overlong ↦ overlong_has_none rest is.0 is.1.line more overlong is.1.is_line is.2
  | inr other ↦
      let one = line_is_one other.2.0 is.0 other.0 is.1.line other.1 more other.2.1 is.1.is_line (sym other.2.2 ∙ is.2) in
      other.3 (subst (λ (l : Split). IsOneWord (codes "END") l) (sym one.1) is.1.says)
]
end_fault_has_none fault.Memory rest more none is = none

-- where the data is whole, what follows it is the rest
pub rest_is : (bytes stored rest found more : List ℕ) → bytes ≡ block stored ++ rest → bytes ≡ block found ++ more → length found ≡ length stored → rest ≡ more
rest_is bytes stored rest found more e f len = (data_is_one stored found rest more (sym len) (sym e ∙ f)).1

-- the data of a value, and what follows it
pub body_data : (bytes body rest : List ℕ) (line : Split) (found : Value) → bytes ≡ body ++ rest → (is : IsBody line body found) → bytes ≡ block found.data ++ (is.last ++ rest)
body_data bytes body rest line found e is = e ∙ ap (λ xs. xs ++ rest) is.whole ∙ append_assoc (block found.data) is.last rest

-- the line announces no value that was asked for
pub no_head : (key : List ℕ) (unique : _) (line : Split) (bytes : List ℕ) → NoHead line key unique
    → BodyFault fault.Unreadable (Retrieval key unique) line bytes
no_head key unique line bytes none =
    let nothing : (found : List ℕ) (flags size : ℕ) (cas : Option ℕ) → IsHead line found flags size cas → Asks (Retrieval key unique) found cas → ⊥ =
    λ found flags size cas head asked. none flags size cas asked.1 (subst (λ (k : List ℕ). IsHead line k flags size cas) asked.0 head) in (
      λ cut. nothing cut.key cut.flags cut.size cut.cas cut.is_head cut.asked,
      λ body rest found e is asked. nothing found.key found.flags (length found.data) found.unique is.is_head asked,
    )

module _ (kind : RequestKind) (line : Split) (key : List ℕ) (flags size : ℕ) (cas : Option ℕ) (head : IsHead line key flags size cas) (asked : Asks kind key cas) where
  same_size : (other : List ℕ) (f s : ℕ) (c : Option ℕ) → IsHead line other f s c → s ≡ size
  same_size other f s c is = sym (head_is_one line key other flags f size s cas c head is).2

  body_size : (body : List ℕ) (found : Value) → IsBody line body found → length found.data ≡ size
  body_size body found is = same_size found.key found.flags (length found.data) found.unique is.is_head

  -- what is wrong with the data of the value that the line announces
  pub data_fault : (f : ReadFault) (bytes : List ℕ) → DataFault f size bytes → BodyFault f kind line bytes
  data_fault fault.Short bytes cut = (
    record { key = key; flags = flags; size = size; cas = cas; is_head = head; asked = asked; cut = inl cut },
    λ body rest found e is. λ _. cut_data_has_none size bytes found.data (is.last ++ rest) cut (body_data bytes body rest line found e is) (body_size body found is),
  )
  data_fault fault.Unreadable bytes wrong = (
    λ cut.
        let same : cut.size ≡ size = same_size cut.key cut.flags cut.size cut.cas cut.is_head in
        elim cut.cut [
          | inl short ↦ wrong_data_isnt_cut size bytes wrong (subst (λ (n : ℕ). IsCutData n bytes) same short)
          | inr end ↦ wrong_data_has_none size bytes end.0 end.1 wrong end.3 (end.2 ∙ same)
        ],
    λ body rest found e is. λ _. wrong_data_has_none size bytes found.data (is.last ++ rest) wrong (body_data bytes body rest line found e is) (body_size body found is),
  )
  data_fault fault.Memory bytes none = absurd none

  -- the line that follows whole data has to be `END`
  end_has_none : (f : ReadFault) (bytes stored rest : List ℕ) → length stored ≡ size → bytes ≡ block stored ++ rest → EndFault f rest
      → (body more : List ℕ) (found : Value) → bytes ≡ body ++ more → IsBody line body found → ⊥
  end_has_none f bytes stored rest len e wrong body more found front is =
      let same = rest_is bytes stored rest found.data (is.last ++ more) e (body_data bytes body more line found front is) (body_size body found is ∙ sym len) in
      end_fault_has_none f rest more wrong (is.last, is.is_end, same)

  pub end_fault : (f : ReadFault) (bytes stored rest : List ℕ) → length stored ≡ size → bytes ≡ block stored ++ rest → EndFault f rest → BodyFault f kind line bytes
  end_fault fault.Short bytes stored rest len e open_line = (
    record { key = key; flags = flags; size = size; cas = cas; is_head = head; asked = asked; cut = inr (stored, rest, len, e, open_line) },
    λ body more found front is. λ _. end_has_none fault.Short bytes stored rest len e open_line body more found front is,
  )
  end_fault fault.Unreadable bytes stored rest len e wrong = (
    λ cut.
        let same : cut.size ≡ size = same_size cut.key cut.flags cut.size cut.cas cut.is_head in
        elim cut.cut [
          | inl short ↦ cut_data_has_none size bytes stored rest (subst (λ (n : ℕ). IsCutData n bytes) same short) e len
          | inr end ↦ end_fault_isnt_open rest wrong (subst IsOpenLine (sym (rest_is bytes stored rest end.0 end.1 e end.3 (end.2 ∙ same ∙ sym len))) end.4)
        ],
    λ body more found front is. λ _. end_has_none fault.Unreadable bytes stored rest len e wrong body more found front is,
  )
  end_fault fault.Memory bytes stored rest len e none = absurd none

  -- the value that was read
  pub body_read : (bytes stored rest more : List ℕ) (value : Value) → length stored ≡ size → bytes ≡ block stored ++ rest → SplitsEnd rest more
      → value.key ≡ key → value.flags ≡ flags → value.data ≡ stored → value.unique ≡ cas → SplitsBody kind line bytes value more
  body_read bytes stored rest more value len e end keys same_flags same_data same_cas = (
    block stored ++ end.0,
    e ∙ ap (λ xs. block stored ++ xs) end.2 ∙ sym (append_assoc (block stored) end.0 more),
    record {
      last = end.0;
      is_head = rw (keys, same_flags, same_data, same_cas, len) head;
      whole = ap (λ xs. block xs ++ end.0) (sym same_data);
      is_end = end.1;
    },
    rw (keys, same_cas) asked,
  )

-- where the data of a value are, which the line announces that the rest follows
pub data_there : (kind : RequestKind) (line first : Split) (bytes rest more : List ℕ) (found : Value)
    → SplitsLine bytes first rest → SplitsBody kind line rest found more
    → take (length found.«data») (drop (length bytes - length rest) bytes) ≡ found.«data»
data_there kind line first bytes rest more found split goes =
    let stored = found.«data» in
    let at : drop (length bytes - length rest) bytes ≡ rest =
    ap (drop (length bytes - length rest)) split.2
    ∙ drop_at split.0 rest (length bytes - length rest) (omega (arith, ap length split.2, length-append split.0 rest)) in
    let flat : rest ≡ stored ++ (13 ∷ 10 ∷ (goes.2.last ++ more)) =
    goes.1 ∙ ap (λ xs. xs ++ more) goes.2.whole ∙ append_assoc (block stored) goes.2.last more
    ∙ block_then stored (goes.2.last ++ more) in
    ap (take (length stored)) (at ∙ flat) ∙ take_at stored _ (length stored) refl

-- a value that is told with the data at their place is the value that was found
pub placed : (kind : RequestKind) (line first : Split) (bytes rest more : List ℕ) (key : List ℕ) (head : Head)
    (stored : List ℕ) → SplitsLine bytes first rest
    → SplitsBody kind line rest (value_of key head stored) more → length stored ≡ head.size
    → stored ≡ take head.size (drop (length bytes - length rest) bytes)
placed kind line first bytes rest more key head stored split goes len =
    sym (data_there kind line first bytes rest more (value_of key head stored) split goes)
    ∙ ap (λ n. take n (drop (length bytes - length rest) bytes)) len
