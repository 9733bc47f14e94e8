-- Requests and faults, and the one printed form of each.
use Rattle.std.specs.Prelude.{ℕ, Bool, true, false, List, [], ◌∷◌, ◌++◌, length, codes, flat_map, Option, Some, None}
use Rattle.std.specs.Fmt.{decimal, signed_decimal}
use Rattle.std.specs.List.{join_with_byte}
use Rattle.tko_bytes.specs.Lines.{crlf}
use Rattle.tko_bytes.specs.Words.{space}
use Rattle.tko_text.specs.declared.fault.TextFault.{TextFault}
use Rattle.tko_text.specs.declared.fault.TextFault.TheVariants.{UnknownCommand, BadLine, BadKey, BadChunk, TooLarge, LineTooLong}
use Rattle.tko_text.specs.declared.request.Entry.{Entry}
use Rattle.tko_text.specs.declared.request.Request.{Request}
use Rattle.tko_text.specs.declared.request.Request.TheVariants.{Get, Gets, Store, Cas, Delete, Incr, Decr, Touch, Version, Quit, StatsTko}
use Rattle.tko_text.specs.declared.request.Verb.{Verb}
use Rattle.tko_text.specs.declared.request.Verb.TheVariants.{Set, Add, Replace, Append, Prepend}

abbrev pub verb_word : Verb → List ℕ
verb_word Set = codes "set"
verb_word Add = codes "add"
verb_word Replace = codes "replace"
verb_word Append = codes "append"
verb_word Prepend = codes "prepend"

-- the line that is printed of words
abbrev pub line_of_words : List (List ℕ) → List ℕ
line_of_words words = join_with_byte space words ++ crlf

-- the last word of a request that asks for no reply
abbrev pub noreply_words : Bool → List (List ℕ)
noreply_words true = codes "noreply" ∷ []
noreply_words false = []

-- the words for what is stored, which end with the number of its bytes
abbrev pub entry_words : Entry → List (List ℕ)
entry_words entry =
    entry.key ∷ decimal entry.flags ∷ signed_decimal entry.expiry
    ∷ decimal (length entry.value) ∷ []

-- the words of the printed line
abbrev pub printed_words : Request → List (List ℕ)
printed_words (Get keys) = codes "get" ∷ keys
printed_words (Gets keys) = codes "gets" ∷ keys
printed_words (Store verb entry noreply) =
    verb_word verb ∷ entry_words entry ++ noreply_words noreply
printed_words (Cas entry unique noreply) =
    codes "cas" ∷ entry_words entry ++ decimal unique ∷ noreply_words noreply
printed_words (Delete key noreply) = codes "delete" ∷ key ∷ noreply_words noreply
printed_words (Incr key amount noreply) =
    codes "incr" ∷ key ∷ decimal amount ∷ noreply_words noreply
printed_words (Decr key amount noreply) =
    codes "decr" ∷ key ∷ decimal amount ∷ noreply_words noreply
printed_words (Touch key expiry noreply) =
    codes "touch" ∷ key ∷ signed_decimal expiry ∷ noreply_words noreply
printed_words Version = codes "version" ∷ []
printed_words Quit = codes "quit" ∷ []
printed_words StatsTko = codes "stats" ∷ codes "tko" ∷ []

-- the data that follow the line, and their CR LF
abbrev pub printed_data : Request → List ℕ
printed_data (Store verb entry noreply) = entry.value ++ crlf
printed_data (Cas entry unique noreply) = entry.value ++ crlf
printed_data _ = []

-- the printed form: single spaces, no leading zeros, CR LF
unfoldable pub request_text : Request → List ℕ
request_text request = line_of_words (printed_words request) ++ printed_data request

-- the reply to a fault
unfoldable pub fault_text : TextFault → List ℕ
fault_text UnknownCommand = codes "ERROR" ++ crlf
fault_text BadLine = codes "CLIENT_ERROR bad command line format" ++ crlf
fault_text BadKey = codes "CLIENT_ERROR bad key" ++ crlf
fault_text BadChunk = codes "CLIENT_ERROR bad data chunk" ++ crlf
fault_text TooLarge = codes "SERVER_ERROR object too large for cache" ++ crlf
fault_text LineTooLong = codes "CLIENT_ERROR line too long" ++ crlf

-- `noreply` and the space before it
abbrev pub noreply_text : Bool → List ℕ
noreply_text true = codes " noreply"
noreply_text false = []

-- keys, with a space before each
abbrev pub keys_text : List (List ℕ) → List ℕ
keys_text keys = flat_map (λ key. space ∷ key) keys

-- the cas number of a storage request that has one
abbrev pub unique_words : Option ℕ → List (List ℕ)
unique_words None = []
unique_words (Some unique) = decimal unique ∷ []

-- the printed form of a storage request, by its command word
abbrev pub stored_text : List ℕ → Entry → Option ℕ → Bool → List ℕ
stored_text word entry unique noreply =
    line_of_words (word ∷ entry_words entry ++ unique_words unique ++ noreply_words noreply)
    ++ entry.value ++ crlf

-- the same, by what follows the number of bytes in the line
abbrev pub stored_pieces : List ℕ → Entry → List ℕ → List ℕ
stored_pieces word entry rest =
    word ++ codes " " ++ entry.key ++ codes " " ++ decimal entry.flags ++ codes " "
    ++ signed_decimal entry.expiry ++ codes " " ++ decimal (length entry.value) ++ rest ++ crlf
    ++ entry.value ++ crlf
