-- Request lines: the table of command words, the words that follow each of them, and the faults in
-- the order in which they are looked for.
use Rattle.std.specs.Prelude.{ℕ, ℤ, ◌+◌, Bool, true, false, List, [], ◌∷◌, codes, Option, Some, None, Result, Ok, Err, option_and_then, unwrap_or, nat_le, if◌then◌else◌}
use Rattle.std.specs.List.{list_all}
use Rattle.std.specs.Str.{bytes_eq}
use Rattle.tko_bytes.specs.Numbers.{number_of}
use Rattle.tko_bytes.specs.Words.{words}
use Rattle.tko_text.specs.declared.fault.TextFault.{TextFault}
use Rattle.tko_text.specs.declared.fault.TextFault.TheVariants.{UnknownCommand, BadLine, BadKey, TooLarge}
use Rattle.tko_text.specs.declared.form.Form.{Form}
use Rattle.tko_text.specs.declared.form.Form.TheVariants as form
use Rattle.tko_text.specs.declared.request.Entry.{Entry}
use Rattle.tko_text.specs.declared.request.Request.{Request}
use Rattle.tko_text.specs.declared.request.Request.TheVariants as request
use Rattle.tko_text.specs.declared.request.Verb.{Verb}
use Rattle.tko_text.specs.declared.request.Verb.TheVariants.{Set, Add, Replace, Append, Prepend}
use Rattle.tko_text.specs.Keys.{is_key}
use Rattle.tko_text.specs.Limits.{data_limit, flags_limit, number_limit}
use Rattle.tko_text.specs.Numbers.{expiry_of}

-- what is skipped after a text before the next one begins: nothing, n bytes, or all up to the
-- first LF; or no further text is read
pub data After : Type 0 where
  Next : After
  Pass : ℕ → After
  PassLine : After
  Never : After

-- what a line is by itself: a whole request; a request that n bytes of data complete; or a
-- fault, and what is skipped after the line
pub data ParsedLine : Type 0 where
  Asks : Request → ParsedLine
  AwaitsData : ℕ → (List ℕ → Request) → ParsedLine
  Refused : TextFault → After → ParsedLine

-- the command words
abbrev pub commands : List (List ℕ × Form)
commands =
    (codes "get", form.Get)
    ∷ (codes "gets", form.Gets)
    ∷ (codes "set", form.Store Set)
    ∷ (codes "add", form.Store Add)
    ∷ (codes "replace", form.Store Replace)
    ∷ (codes "append", form.Store Append)
    ∷ (codes "prepend", form.Store Prepend)
    ∷ (codes "cas", form.Cas)
    ∷ (codes "delete", form.Delete)
    ∷ (codes "incr", form.Incr)
    ∷ (codes "decr", form.Decr)
    ∷ (codes "touch", form.Touch)
    ∷ (codes "version", form.Version)
    ∷ (codes "quit", form.Quit)
    ∷ (codes "stats", form.Stats)
    ∷ []

-- a word in a table
abbrev pub form_in_table : List ℕ → List (List ℕ × Form) → Option Form
form_in_table word [] = None
form_in_table word (entry ∷ table) =
    if bytes_eq word entry.0 then Some entry.1 else form_in_table word table

-- the form of a command word
unfoldable pub form_of : List ℕ → Option Form
form_of word = form_in_table word commands

abbrev pub bad_line : ParsedLine
bad_line = Refused BadLine Next

-- the request, where the key is one
abbrev pub with_key : List ℕ → Request → ParsedLine
with_key key asked = if is_key key then Asks asked else Refused BadKey Next

-- `size` bytes of data follow, where the key is one and they aren't too many; else they and their
-- CR LF are skipped
abbrev pub with_data : List ℕ → ℕ → (List ℕ → Request) → ParsedLine
with_data key size asked =
    if is_key key
    then (if nat_le size data_limit
    then AwaitsData size asked
    else Refused TooLarge (Pass (size + 2)))
    else Refused BadKey (Pass (size + 2))

infixl 10 ◌>>=◌
abbrev pub ◌>>=◌ : {A B : Type 0} → Option A → (A → Option B) → Option B
o >>= f = option_and_then f o

-- whether `noreply` follows the other words, where nothing else does
abbrev pub noreply : List (List ℕ) → Option Bool
noreply [] = Some false
noreply (word ∷ []) = if bytes_eq word (codes "noreply") then Some true else None
noreply (word ∷ other ∷ words) = None

-- one key or more, or the fault
abbrev pub keys_of : List (List ℕ) → Result (List (List ℕ)) TextFault
keys_of [] = Err BadLine
keys_of (key ∷ keys) =
    if list_all is_key (key ∷ keys) then Ok (key ∷ keys) else Err BadKey

-- a request of these keys
abbrev pub asked_of : (List (List ℕ) → Request) → Result (List (List ℕ)) TextFault → ParsedLine
asked_of asked (Ok keys) = Asks (asked keys)
asked_of asked (Err fault) = Refused fault Next

abbrev pub parsed_keys : (List (List ℕ) → Request) → List (List ℕ) → ParsedLine
parsed_keys asked arguments = asked_of asked (keys_of arguments)

-- what a line announces of an entry
pub record Announced : Type 0 where
  pub key : List ℕ
  pub flags : ℕ
  pub expiry : ℤ
  pub size : ℕ

abbrev pub announced_by : List ℕ → ℕ → ℤ → ℕ → Announced
announced_by key flags expiry size =
    record { key = key; flags = flags; expiry = expiry; size = size }

-- the entry that is announced, with its data
abbrev pub entry_with : Announced → List ℕ → Entry
entry_with a value = record { key = a.key; flags = a.flags; expiry = a.expiry; value = value }

-- <key> <flags> <expiry> <bytes>, and the words that follow
abbrev pub announced : List (List ℕ) → Option (Announced × List (List ℕ))
announced (key ∷ flags ∷ until ∷ bytes ∷ rest) = do
  f ← number_of flags_limit flags
  e ← expiry_of until
  size ← number_of number_limit bytes
  Some (announced_by key f e size, rest)
announced _ = None

-- <cas> [noreply]
abbrev pub cas_words : List (List ℕ) → Option (ℕ × Bool)
cas_words [] = None
cas_words (cas ∷ rest) = do
  unique ← number_of number_limit cas
  quiet ← noreply rest
  Some (unique, quiet)

-- <key> <flags> <expiry> <bytes> [noreply], and the data
abbrev pub parsed_storage : Verb → List (List ℕ) → Option ParsedLine
parsed_storage verb arguments = do
  a ← announced arguments
  quiet ← noreply a.1
  Some (with_data a.0.key a.0.size (λ value. request.Store verb (entry_with a.0 value) quiet))

-- <key> <flags> <expiry> <bytes> <cas> [noreply], and the data
abbrev pub parsed_cas : List (List ℕ) → Option ParsedLine
parsed_cas arguments = do
  a ← announced arguments
  c ← cas_words a.1
  Some (with_data a.0.key a.0.size (λ value. request.Cas (entry_with a.0 value) c.0 c.1))

-- <key> [noreply]
abbrev pub parsed_delete : List (List ℕ) → Option ParsedLine
parsed_delete [] = None
parsed_delete (key ∷ rest) = do
  quiet ← noreply rest
  Some (with_key key (request.Delete key quiet))

-- <key> <amount> [noreply]
abbrev pub parsed_counter : (List ℕ → ℕ → Bool → Request) → List (List ℕ) → Option ParsedLine
parsed_counter asked (key ∷ amount ∷ rest) = do
  n ← number_of number_limit amount
  quiet ← noreply rest
  Some (with_key key (asked key n quiet))
parsed_counter asked _ = None

-- <key> <expiry> [noreply]
abbrev pub parsed_touch : List (List ℕ) → Option ParsedLine
parsed_touch (key ∷ until ∷ rest) = do
  e ← expiry_of until
  quiet ← noreply rest
  Some (with_key key (request.Touch key e quiet))
parsed_touch _ = None

-- no further word
abbrev pub parsed_bare : Request → List (List ℕ) → ParsedLine
parsed_bare asked [] = Asks asked
parsed_bare asked (word ∷ words) = bad_line

-- the word `tko`; with other words, or none, `stats` is no command
abbrev pub parsed_stats : List (List ℕ) → ParsedLine
parsed_stats (word ∷ []) =
    if bytes_eq word (codes "tko") then Asks request.StatsTko else Refused UnknownCommand Next
parsed_stats _ = Refused UnknownCommand Next

-- the words that follow a command word
abbrev pub parsed_form : Form → List (List ℕ) → ParsedLine
parsed_form form.Get arguments = parsed_keys request.Get arguments
parsed_form form.Gets arguments = parsed_keys request.Gets arguments
parsed_form (form.Store verb) arguments = unwrap_or (parsed_storage verb arguments) bad_line
parsed_form form.Cas arguments = unwrap_or (parsed_cas arguments) bad_line
parsed_form form.Delete arguments = unwrap_or (parsed_delete arguments) bad_line
parsed_form form.Incr arguments = unwrap_or (parsed_counter request.Incr arguments) bad_line
parsed_form form.Decr arguments = unwrap_or (parsed_counter request.Decr arguments) bad_line
parsed_form form.Touch arguments = unwrap_or (parsed_touch arguments) bad_line
parsed_form form.Version arguments = parsed_bare request.Version arguments
parsed_form form.Quit arguments = parsed_bare request.Quit arguments
parsed_form form.Stats arguments = parsed_stats arguments

-- the same, where the command word has a form
abbrev pub parsed_known : Option Form → List (List ℕ) → ParsedLine
parsed_known None arguments = Refused UnknownCommand Next
parsed_known (Some form) arguments = parsed_form form arguments

-- the words of a line
abbrev pub parsed_words : List (List ℕ) → ParsedLine
parsed_words [] = Refused UnknownCommand Next
parsed_words (word ∷ arguments) = parsed_known (form_of word) arguments

-- a line that holds these bytes
abbrev pub parsed : List ℕ → ParsedLine
parsed bytes = parsed_words (words bytes)
