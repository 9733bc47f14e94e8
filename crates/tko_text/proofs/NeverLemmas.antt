-- Nothing is read after a line that is too long, and after no other item.
use Rattle.std.proofs.Common.{◌≡◌, ◌≢◌, ℕ, ◌+◌, ◌-◌, Bool, true, false, List, [], ◌∷◌, cond, length, drop, Option, Some, None, Ok, Err, refl, sym, ap, ◌∙◌}
use Rattle.std.specs.Prelude.{unwrap_or, nat_le, ◌==◌}
use Rattle.std.specs.Option.{option_and_then}
use Rattle.std.specs.List.{list_all}
use Rattle.std.specs.Str.{bytes_eq}
use Rattle.std.specs.Prelude.{codes}
use Rattle.tko_text.specs.declared.fault.TextFault.TheVariants.{UnknownCommand, BadKey, TooLarge, LineTooLong}
use Rattle.tko_text.specs.declared.item.Item.{Item}
use Rattle.tko_text.specs.declared.item.Item.TheVariants as item
use Rattle.tko_text.specs.declared.request.Request.{Request}
use Rattle.tko_text.specs.declared.request.Request.TheVariants as request
use Rattle.tko_text.specs.declared.request.Verb.{Verb}
use Rattle.tko_text.specs.declared.request.Verb.TheVariants.{Set, Add, Replace, Append, Prepend}
use Rattle.tko_text.specs.Commands.{ParsedLine, Asks, AwaitsData, Refused, announced, asked_of, bad_line, cas_words, noreply, with_key, with_data, parsed_bare, parsed_cas, parsed_counter, parsed_delete, parsed_keys, parsed_stats, parsed_storage, parsed_touch, parsed_known, parsed_words, parsed, form_of}
use Rattle.tko_text.specs.Keys.{is_key}
use Rattle.tko_text.specs.Limits.{data_limit, number_limit}
use Rattle.tko_text.specs.Numbers.{expiry_of}
use Rattle.tko_bytes.specs.Numbers.{number_of}
use Rattle.tko_bytes.specs.Lines.{line_feed, content}
use Rattle.tko_text.specs.Reading.{After, Next, Pass, PassLine, Never, Reading, Completes, Decides, IsWrongEnd, by_line, by_length, passed, Emits}
use Rattle.tko_bytes.specs.Words.{words}

-- the fault after which nothing is read
abbrev line_too_long : Item
line_too_long = item.Fault LineTooLong

-- a fault other than a line too long, after which reading goes on
abbrev IsOrdinary : ParsedLine → Type 0
IsOrdinary (Asks asked) = Unit {0}
IsOrdinary (AwaitsData size asked) = Unit {0}
IsOrdinary (Refused why onward) = (why ≢ LineTooLong) × (onward ≢ Never)

either : (b : Bool) (one other : ParsedLine) → IsOrdinary one → IsOrdinary other → IsOrdinary (cond b one other)
either b one other first second = elim b as (λ v. IsOrdinary (cond v one other)) [ true ↦ first | false ↦ second ]

bad_line_ordinary : IsOrdinary bad_line
bad_line_ordinary = (λ e. cc, λ e. cc)

bad_key_ordinary : IsOrdinary (Refused BadKey Next)
bad_key_ordinary = (λ e. cc, λ e. cc)

unknown_ordinary : IsOrdinary (Refused UnknownCommand Next)
unknown_ordinary = (λ e. cc, λ e. cc)

bad_data_ordinary : (n : ℕ) → IsOrdinary (Refused BadKey (Pass n))
bad_data_ordinary n = (λ e. cc, λ e. cc)

too_large_ordinary : (n : ℕ) → IsOrdinary (Refused TooLarge (Pass n))
too_large_ordinary n = (λ e. cc, λ e. cc)

and_then : {A : Type 0} (o : Option A) (f : A → Option ParsedLine) → ((a : A) → IsOrdinary (unwrap_or (f a) bad_line))
    → IsOrdinary (unwrap_or (option_and_then f o) bad_line)
and_then None f each = bad_line_ordinary
and_then (Some a) f each = each a

key_ordinary : (key : List ℕ) (asked : Request) → IsOrdinary (with_key key asked)
key_ordinary key asked = either (is_key key) (Asks asked) (Refused BadKey Next) tt bad_key_ordinary

data_ordinary : (key : List ℕ) (size : ℕ) (asked : List ℕ → Request) → IsOrdinary (with_data key size asked)
data_ordinary key size asked =
    let large : ParsedLine = Refused TooLarge (Pass (size + 2)) in
    let fits : ParsedLine = cond (nat_le size data_limit) (AwaitsData size asked) large in
    let fits_ordinary : IsOrdinary fits = either (nat_le size data_limit) (AwaitsData size asked) large tt (too_large_ordinary (size + 2)) in
    either (is_key key) fits (Refused BadKey (Pass (size + 2))) fits_ordinary (bad_data_ordinary (size + 2))

keys_ordinary : (asked : List (List ℕ) → Request) (keys : List (List ℕ)) → IsOrdinary (parsed_keys asked keys)
keys_ordinary asked [] = bad_line_ordinary
keys_ordinary asked (key ∷ keys) =
    elim (list_all is_key (key ∷ keys)) as (λ v. IsOrdinary (asked_of asked (cond v (Ok (key ∷ keys)) (Err BadKey)))) [ true ↦ tt | false ↦ bad_key_ordinary ]

stored_ordinary : (verb : Verb) (arguments : List (List ℕ)) → IsOrdinary (unwrap_or (parsed_storage verb arguments) bad_line)
stored_ordinary verb arguments =
    and_then (announced arguments) _ (λ a. and_then (noreply a.1) _ (λ quiet. data_ordinary a.0.key a.0.size _))

compared_ordinary : (arguments : List (List ℕ)) → IsOrdinary (unwrap_or (parsed_cas arguments) bad_line)
compared_ordinary arguments =
    and_then (announced arguments) _ (λ a. and_then (cas_words a.1) _ (λ c. data_ordinary a.0.key a.0.size _))

deleted_ordinary : (arguments : List (List ℕ)) → IsOrdinary (unwrap_or (parsed_delete arguments) bad_line)
deleted_ordinary [] = bad_line_ordinary
deleted_ordinary (key ∷ rest) = and_then (noreply rest) _ (λ quiet. key_ordinary key _)

counted_ordinary : (asked : List ℕ → ℕ → Bool → Request) (arguments : List (List ℕ))
    → IsOrdinary (unwrap_or (parsed_counter asked arguments) bad_line)
counted_ordinary asked [] = bad_line_ordinary
counted_ordinary asked (key ∷ []) = bad_line_ordinary
counted_ordinary asked (key ∷ amount ∷ rest) =
    and_then (number_of number_limit amount) _ (λ n. and_then (noreply rest) _ (λ quiet. key_ordinary key _))

touched_ordinary : (arguments : List (List ℕ)) → IsOrdinary (unwrap_or (parsed_touch arguments) bad_line)
touched_ordinary [] = bad_line_ordinary
touched_ordinary (key ∷ []) = bad_line_ordinary
touched_ordinary (key ∷ until ∷ rest) =
    and_then (expiry_of until) _ (λ e. and_then (noreply rest) _ (λ quiet. key_ordinary key _))

alone_ordinary : (asked : Request) (arguments : List (List ℕ)) → IsOrdinary (parsed_bare asked arguments)
alone_ordinary asked [] = tt
alone_ordinary asked (word ∷ words) = bad_line_ordinary

stats_ordinary : (arguments : List (List ℕ)) → IsOrdinary (parsed_stats arguments)
stats_ordinary [] = unknown_ordinary
stats_ordinary (word ∷ []) =
    either (bytes_eq word (codes "tko")) (Asks request.StatsTko) (Refused UnknownCommand Next) tt unknown_ordinary
stats_ordinary (word ∷ other ∷ words) = unknown_ordinary

-- a property of both cases of a test
pick : {A : Type 0} (P : A → Type 0) (b : Bool) (one other : A) → P one → P other → P (cond b one other)
pick P b one other first second = elim b as (λ v. P (cond v one other)) [ true ↦ first | false ↦ second ]

word_ordinary : (word : List ℕ) (arguments : List (List ℕ)) → IsOrdinary (parsed_known (form_of word) arguments)
unfolding form_of
word_ordinary word arguments =
    pick (λ at. IsOrdinary (parsed_known at arguments)) (bytes_eq word (codes "get")) _ _ (keys_ordinary request.Get arguments) (
    pick (λ at. IsOrdinary (parsed_known at arguments)) (bytes_eq word (codes "gets")) _ _ (keys_ordinary request.Gets arguments) (
    pick (λ at. IsOrdinary (parsed_known at arguments)) (bytes_eq word (codes "set")) _ _ (stored_ordinary Set arguments) (
    pick (λ at. IsOrdinary (parsed_known at arguments)) (bytes_eq word (codes "add")) _ _ (stored_ordinary Add arguments) (
    pick (λ at. IsOrdinary (parsed_known at arguments)) (bytes_eq word (codes "replace")) _ _ (stored_ordinary Replace arguments) (
    pick (λ at. IsOrdinary (parsed_known at arguments)) (bytes_eq word (codes "append")) _ _ (stored_ordinary Append arguments) (
    pick (λ at. IsOrdinary (parsed_known at arguments)) (bytes_eq word (codes "prepend")) _ _ (stored_ordinary Prepend arguments) (
    pick (λ at. IsOrdinary (parsed_known at arguments)) (bytes_eq word (codes "cas")) _ _ (compared_ordinary arguments) (
    pick (λ at. IsOrdinary (parsed_known at arguments)) (bytes_eq word (codes "delete")) _ _ (deleted_ordinary arguments) (
    pick (λ at. IsOrdinary (parsed_known at arguments)) (bytes_eq word (codes "incr")) _ _ (counted_ordinary request.Incr arguments) (
    pick (λ at. IsOrdinary (parsed_known at arguments)) (bytes_eq word (codes "decr")) _ _ (counted_ordinary request.Decr arguments) (
    pick (λ at. IsOrdinary (parsed_known at arguments)) (bytes_eq word (codes "touch")) _ _ (touched_ordinary arguments) (
    pick (λ at. IsOrdinary (parsed_known at arguments)) (bytes_eq word (codes "version")) _ _ (alone_ordinary request.Version arguments) (
    pick (λ at. IsOrdinary (parsed_known at arguments)) (bytes_eq word (codes "quit")) _ _ (alone_ordinary request.Quit arguments) (
    pick (λ at. IsOrdinary (parsed_known at arguments)) (bytes_eq word (codes "stats")) _ _ (stats_ordinary arguments) (
    unknown_ordinary)))))))))))))))

words_ordinary : (words : List (List ℕ)) → IsOrdinary (parsed_words words)
words_ordinary [] = unknown_ordinary
words_ordinary (word ∷ arguments) = word_ordinary word arguments

wrong_end_goes_on : (end : List ℕ) (after : After) → IsWrongEnd end after → after ≢ Never
wrong_end_goes_on (b ∷ []) after (wrong, is) = λ never.
    let P : Bool → Type 0 = λ v. cond v Next PassLine ≡ Never → ⊥ in
    let each : P (b == line_feed) = elim (b == line_feed) as P [ true ↦ λ e. cc | false ↦ λ e. cc ] in
    each (sym is ∙ never)
wrong_end_goes_on (b ∷ c ∷ []) after (first, second, is) = λ never. cc
wrong_end_goes_on _ after is = absurd is

-- what a line and the bytes behind it complete is no line too long, and reading goes on after it
completed_goes_on : (line : ParsedLine) (behind : List ℕ) (told : Item) (after : After) → IsOrdinary line
    → Completes line behind told after → (told ≢ line_too_long) × (after ≢ Never)
completed_goes_on (Asks command) behind (item.Request request) after ordinary (none, is, next) = (λ e. cc, λ e. cc)
completed_goes_on (Asks command) behind (item.Fault it) after ordinary completes = absurd completes
completed_goes_on (Refused why onward) behind (item.Fault it) after ordinary (none, is, goes) =
    (λ e. ordinary.0 (cc), λ e. ordinary.1 (sym goes ∙ e))
completed_goes_on (Refused why onward) behind (item.Request request) after ordinary completes = absurd completes
completed_goes_on (AwaitsData size command) behind (item.Request request) after ordinary (value, len, parts, is, next) =
    (λ e. cc, λ e. cc)
completed_goes_on (AwaitsData size command) behind (item.Fault it) after ordinary (value, end, len, parts, wrong, is) =
    (λ e. cc, wrong_end_goes_on end after wrong)

decided : (text : List ℕ) (told : Item) (after : After) → Decides text told after
    → (told ≡ line_too_long → after ≡ Never) × (told ≢ line_too_long → after ≢ Never)
decided text told after (by_line before behind line is completes) =
    let goes = completed_goes_on (parsed (content before)) behind told after (words_ordinary (words (content before))) completes in
    (λ e. absurd (goes.0 e), λ ne. goes.1)
decided text told after (by_length long is never) = (λ e. never, λ ne. absurd (ne is))

line_passed_goes_on : (bytes : List ℕ) → (passed PassLine bytes).after ≢ Never
line_passed_goes_on [] = λ e. cc
line_passed_goes_on (b ∷ bytes) =
    let next : Reading = record { after = Next; unread = bytes } in
    let P : Bool → Type 0 = λ v. (cond v next (passed PassLine bytes)).after ≢ Never in
    elim (b == line_feed) as P [ true ↦ λ e. cc | false ↦ line_passed_goes_on bytes ]

passed_goes_on : (after : After) (bytes : List ℕ) → after ≢ Never → (passed after bytes).after ≢ Never
passed_goes_on Next bytes goes = λ e. cc
passed_goes_on (Pass n) bytes goes =
    let past : Reading = record { after = Next; unread = drop n bytes } in
    let short : Reading = record { after = Pass (n - length bytes); unread = [] } in
    let P : Bool → Type 0 = λ v. (cond v past short).after ≢ Never in
    elim (nat_le n (length bytes)) as P [ true ↦ λ e. cc | false ↦ λ e. cc ]
passed_goes_on PassLine bytes goes = line_passed_goes_on bytes
passed_goes_on Never bytes goes = absurd (goes refl)

-- after a line too long nothing is read
pub ends_reading : (from : Reading) (told : Item) (to : Reading) → Emits from told to → told ≡ line_too_long
    → to.after ≡ Never
unfolding Emits
ends_reading from told to (text, left, after, at, decides, goes) e =
    let never = (decided text told after decides).0 e in
    ap (λ (r : Reading). r.after) goes ∙ ap (λ a. (passed a left).after) never

-- after any other item reading goes on
pub goes_on_reading : (from : Reading) (told : Item) (to : Reading) → Emits from told to → told ≢ line_too_long
    → to.after ≢ Never
unfolding Emits
goes_on_reading from told to (text, left, after, at, decides, goes) ne = λ never.
    passed_goes_on after left ((decided text told after decides).1 ne) (sym (ap (λ (r : Reading). r.after) goes) ∙ never)
