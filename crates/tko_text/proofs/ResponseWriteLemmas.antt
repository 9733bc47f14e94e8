-- The pieces of a written value.
use Rattle.std.proofs.Common.{◌≡◌, ℕ, ◌+◌, ◌-◌, List, [], ◌++◌, length, take, drop, append_assoc, arith, ap, refl, ◌∙◌, Option, Some, None, Result, Ok, Err}
use Rattle.tko_bytes.specs.declared.memory.NoMemory.{NoMemory}
use Rattle.tko_text.specs.declared.response.place.ValuePlace.{ValuePlace}
use Rattle.tko_text.specs.Places.{parts, value_at}
use Rattle.std.specs.Prelude.{IfSome, OnOk, codes, decimal}
use Rattle.std.proofs.lemmas.List.{append-nil}
use Rattle.tko_text.specs.declared.response.body.Value.{Value}
use Rattle.tko_text.specs.declared.response.Response.{Response}
use Rattle.tko_text.specs.declared.response.Response.TheVariants.{Values}
use Rattle.tko_text.specs.Responses.{found_text, response_text, value_text}

-- `a` is the first word, `e` ends a line and `g` is the line `END`
joined : (a k s f z b c e d g : List ℕ)
    → a ++ (k ++ (s ++ (f ++ (s ++ (z ++ (b ++ (c ++ (e ++ (d ++ ((e ++ g) ++ []))))))))))
    ≡ (a ++ k ++ s ++ f ++ s ++ z ++ (b ++ c) ++ e ++ d ++ e) ++ g
joined a k s f z b c e d g = simp (append_assoc, append-nil)

pub value_in_a_row : (v : Value) (key flags size space cas stored last end : List ℕ) → key ≡ v.key
    → flags ≡ decimal v.flags → size ≡ decimal (length stored) → stored ≡ v.data
    → last ≡ codes "\r\n" ++ end
    → codes "VALUE " ++ (key ++ (codes " " ++ (flags ++ (codes " " ++ (size ++ (space ++ (cas
    ++ (codes "\r\n" ++ (stored ++ (last ++ []))))))))))
    ≡ found_text v (space ++ cas) ++ end
value_in_a_row v key flags size space cas stored last end keys same_flags sizes same ends =
    rw (keys, same_flags, sizes, same, ends)
    (joined (codes "VALUE ") v.key (codes " ") (decimal v.flags) (decimal (length v.data)) space
    cas (codes "\r\n") v.data end)

-- what follows of what holds at an Ok
pub on_ok_then : {A E P Q : Type 0} (result : Result A E) → (P → Q) → OnOk result P → OnOk result Q
on_ok_then (Ok value) then holds = then holds
on_ok_then (Err fault) then holds = tt

-- a value and the line `END` are its response
pub whole_value : (response : Response) (v : Value) (old out : List ℕ) → response ≡ Values (Some v)
    → ((end : List ℕ) → codes "\r\nEND\r\n" ≡ codes "\r\n" ++ end → out ≡ old ++ value_text v ++ end) → out ≡ old ++ response_text response
unfolding response_text
whole_value response v old out is then =
    rw is (then (codes "END\r\n") refl ∙ append_assoc old (value_text v) (codes "END\r\n"))

-- a shared text of a value that nothing follows
pub shared_alone : (found : Option (List ℕ)) (text : List ℕ) → IfSome found (λ it. (end : List ℕ) → codes "\r\n" ≡ codes "\r\n" ++ end → it ≡ text ++ end)
    → IfSome found (λ it. it ≡ text)
shared_alone None text none = none
shared_alone (Some it) text then = then [] refl ∙ append-nil text

-- a shared text of a value and the line `END` is that of its response
pub shared_whole : (response : Response) (v : Value) (found : Option (List ℕ)) → response ≡ Values (Some v)
    → IfSome found (λ it. (end : List ℕ) → codes "\r\nEND\r\n" ≡ codes "\r\n" ++ end → it ≡ value_text v ++ end)
    → IfSome found (λ it. it ≡ response_text response)
unfolding response_text
shared_whole response v None is none = none
shared_whole response v (Some it) is then = rw is (then (codes "END\r\n") refl)

-- a value that nothing follows
pub nothing_follows : (old text out : List ℕ) → ((end : List ℕ) → codes "\r\n" ≡ codes "\r\n" ++ end → out ≡ old ++ text ++ end)
    → out ≡ old ++ text
nothing_follows old text out then = then [] refl ∙ append-nil (old ++ text)

-- the value at a place, which nothing follows
pub at_place : (result : Result (Unit {0}) NoMemory) (old out text : List ℕ) (place : ValuePlace)
    → OnOk result ((end : List ℕ) → codes "\r\n" ≡ codes "\r\n" ++ end → out
    ≡ old ++ value_text (parts place.key place.head.flags (take (place.begin + place.head.size - place.begin) (drop place.begin text)) place.head.unique) ++ end)
    → OnOk result (out ≡ old ++ value_text (value_at text place))
at_place result old out text place then =
    let size : place.begin + place.head.size - place.begin ≡ place.head.size = omega arith in
    let value : parts place.key place.head.flags (take (place.begin + place.head.size - place.begin) (drop place.begin text)) place.head.unique ≡ value_at text place =
    ap (λ n. parts place.key place.head.flags (take n (drop place.begin text)) place.head.unique) size in
    on_ok_then result (λ whole. nothing_follows old _ out whole ∙ ap (λ v. old ++ value_text v) value) then
