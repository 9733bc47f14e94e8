-- Rows of the grammar, computed: what some lines are, and the printed forms of some requests.
use Rattle.std.proofs.Common.{◌≡◌, [], ◌∷◌, ◌++◌, codes, refl, pos, negsuc, true, false}
use Rattle.std.specs.Fmt.{digits}
use Rattle.std.specs.Prelude.{replicate}
use Rattle.tko_text.specs.declared.fault.TextFault.TheVariants.{UnknownCommand, BadKey, TooLarge}
use Rattle.tko_text.specs.declared.request.Request.TheVariants.{Get, Gets, Store, Cas, Delete, Incr, Decr, Touch, Version, Quit, StatsTko}
use Rattle.tko_text.specs.declared.request.Verb.TheVariants.{Set, Add, Replace, Append, Prepend}
use Rattle.tko_bytes.specs.Lines.{content}
use Rattle.tko_bytes.specs.Numbers.{number_of}
use Rattle.tko_text.specs.Commands.{bad_line, Asks, AwaitsData, Refused, Next, Pass, parsed, form_of}
use Rattle.tko_text.specs.Keys.{is_key}
use Rattle.tko_text.specs.Requests.{request_text}

-- Requests

get_of_one_key : parsed (content (codes "  get   a \r")) ≡ Asks (Get (codes "a" ∷ []))
unfolding is_key form_of
get_of_one_key = refl

gets_of_two_keys : parsed (codes "gets a b") ≡ Asks (Gets (codes "a" ∷ codes "b" ∷ []))
unfolding is_key form_of
gets_of_two_keys = refl

set_with_zeros : parsed (codes "set a  0 -0  005 noreply ")
    ≡ AwaitsData 5 (λ value. Store Set (record { key = codes "a"; flags = 0; expiry = pos 0; value = value }) true)
unfolding is_key number_of form_of
set_with_zeros = refl

add_is_stored : parsed (codes "add a 4294967295 0 1048576")
    ≡ AwaitsData 1048576 (λ value. Store Add (record { key = codes "a"; flags = 4294967295; expiry = pos 0; value = value }) false)
unfolding is_key number_of form_of
add_is_stored = refl

replace_is_stored : parsed (codes "replace a 4294967295 0 1048576")
    ≡ AwaitsData 1048576 (λ value. Store Replace (record { key = codes "a"; flags = 4294967295; expiry = pos 0; value = value }) false)
unfolding is_key number_of form_of
replace_is_stored = refl

append_is_stored : parsed (codes "append a 4294967295 0 1048576")
    ≡ AwaitsData 1048576 (λ value. Store Append (record { key = codes "a"; flags = 4294967295; expiry = pos 0; value = value }) false)
unfolding is_key number_of form_of
append_is_stored = refl

prepend_is_stored : parsed (codes "prepend a 4294967295 0 1048576")
    ≡ AwaitsData 1048576 (λ value. Store Prepend (record { key = codes "a"; flags = 4294967295; expiry = pos 0; value = value }) false)
unfolding is_key number_of form_of
prepend_is_stored = refl

cas_without_noreply : parsed (codes "cas a 0 0 2 9")
    ≡ AwaitsData 2 (λ value. Cas (record { key = codes "a"; flags = 0; expiry = pos 0; value = value }) 9 false)
unfolding is_key number_of form_of
cas_without_noreply = refl

delete_silently : parsed (codes "delete a noreply") ≡ Asks (Delete (codes "a") true)
unfolding is_key form_of
delete_silently = refl

incr_greatest : parsed (codes "incr a 18446744073709551615") ≡ Asks (Incr (codes "a") 18446744073709551615 false)
unfolding is_key number_of form_of
incr_greatest = refl

decr_with_zeros : parsed (codes "decr a 007 noreply") ≡ Asks (Decr (codes "a") 7 true)
unfolding is_key number_of form_of
decr_with_zeros = refl

touch_least : parsed (codes "touch a -9223372036854775808 noreply") ≡ Asks (Touch (codes "a") (negsuc 9223372036854775807) true)
unfolding is_key number_of form_of
touch_least = refl

version : parsed (codes "version") ≡ Asks Version
unfolding form_of
version = refl

quit : parsed (codes " quit ") ≡ Asks Quit
unfolding form_of
quit = refl

stats_tko : parsed (codes "stats tko") ≡ Asks StatsTko
unfolding form_of
stats_tko = refl

-- Faults

no_word : parsed (codes "  ") ≡ Refused UnknownCommand Next
no_word = refl

upper_case : parsed (codes "GET a") ≡ Refused UnknownCommand Next
unfolding form_of
upper_case = refl

stats_alone : parsed (codes "stats") ≡ Refused UnknownCommand Next
unfolding form_of
stats_alone = refl

stats_with_more : parsed (codes "stats tko x") ≡ Refused UnknownCommand Next
unfolding form_of
stats_with_more = refl

get_without_key : parsed (codes "get") ≡ bad_line
unfolding form_of
get_without_key = refl

version_with_more : parsed (codes "version x") ≡ bad_line
unfolding form_of
version_with_more = refl

delete_with_time : parsed (codes "delete a 0") ≡ bad_line
unfolding form_of
delete_with_time = refl

misspelled_noreply : parsed (codes "set a 0 0 1 norply") ≡ bad_line
unfolding is_key number_of form_of
misspelled_noreply = refl

cas_without_number : parsed (codes "cas a 0 0 2") ≡ bad_line
unfolding is_key number_of form_of
cas_without_number = refl

set_plus_expiry : parsed (codes "set a 0 +5 5") ≡ bad_line
unfolding is_key number_of form_of
set_plus_expiry = refl

set_lone_minus : parsed (codes "set a 0 - 5") ≡ bad_line
unfolding is_key number_of form_of
set_lone_minus = refl

flags_past_limit : parsed (codes "set a 4294967296 0 1") ≡ bad_line
unfolding is_key number_of form_of
flags_past_limit = refl

amount_past_limit : parsed (codes "incr a 18446744073709551616") ≡ bad_line
unfolding is_key number_of form_of
amount_past_limit = refl

expiry_past_limit : parsed (codes "touch a 9223372036854775808") ≡ bad_line
unfolding is_key number_of form_of
expiry_past_limit = refl

size_past_limit : parsed (codes "set a 0 0 18446744073709551616") ≡ bad_line
unfolding is_key number_of form_of
size_past_limit = refl

tab_in_a_key : parsed (codes "get a\tb") ≡ Refused BadKey Next
unfolding is_key form_of
tab_in_a_key = refl

second_key_is_bad : parsed (codes "get a " ++ 127 ∷ []) ≡ Refused BadKey Next
unfolding is_key form_of
second_key_is_bad = refl

key_of_251_bytes : parsed (codes "get " ++ replicate 251 97) ≡ Refused BadKey Next
unfolding is_key form_of
key_of_251_bytes = refl

set_too_large : parsed (codes "set a 0 -7 1048577") ≡ Refused TooLarge (Pass 1048579)
unfolding is_key number_of form_of
set_too_large = refl

-- the sum of the greatest size and 2 does not wrap
set_of_greatest_size : parsed (codes "set a 0 0 18446744073709551615") ≡ Refused TooLarge (Pass 18446744073709551617)
unfolding is_key number_of form_of
set_of_greatest_size = refl

-- Faults of one line, in their order

unknown_before_bad_line : parsed (codes "sett a 0 + 1") ≡ Refused UnknownCommand Next
unfolding form_of
unknown_before_bad_line = refl

bad_line_before_bad_key : parsed (codes "set " ++ 127 ∷ codes " 0 + 1") ≡ bad_line
unfolding is_key number_of form_of
bad_line_before_bad_key = refl

bad_amount_before_bad_key : parsed (codes "incr " ++ 127 ∷ codes " x") ≡ bad_line
unfolding is_key number_of form_of
bad_amount_before_bad_key = refl

bad_key_before_too_large : parsed (codes "set " ++ 127 ∷ codes " 0 0 1048577") ≡ Refused BadKey (Pass 1048579)
unfolding is_key number_of form_of
bad_key_before_too_large = refl

-- Printed forms

printed-set : request_text (Store Set (record { key = codes "k"; flags = 7; expiry = negsuc 0; value = codes "xy" }) true)
    ≡ codes "set k 7 -1 2 noreply\r\nxy\r\n"
unfolding request_text digits
printed-set = refl

printed-cas : request_text (Cas (record { key = codes "k"; flags = 0; expiry = pos 0; value = [] }) 18446744073709551615 false)
    ≡ codes "cas k 0 0 0 18446744073709551615\r\n\r\n"
unfolding request_text digits
printed-cas = refl

printed-incr : request_text (Incr (codes "a") 7 false) ≡ codes "incr a 7\r\n"
unfolding request_text digits
printed-incr = refl
