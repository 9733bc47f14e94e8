-- The workers of a page, by their numbers.
use Rattle.std.proofs.Common.{◌≡◌, All, ℕ, List, [], ◌∷◌, ◌+◌, ◌++◌, map, refl, sym, ap, ◌∙◌, arith, Bor, Option, Some, None, length}
use Rattle.std.specs.Option.{option_copied, unwrap_or}
use Rattle.std.specs.List.{range_with_len}
use Rattle.std.proofs.lemmas.List.{map-append, map-id}
use Rattle.std.proofs.lemmas.List.Elements.{All-nil, All-cons, All-append, All-same}
use Rattle.std.proofs.lemmas.List.FromFn.{map-range_with_len_more}
use Rattle.tko_metrics.specs.declared.meter.SharedMeter.{SharedMeter}
use Rattle.tko_metrics.specs.declared.workers.WorkerReading.{WorkerReading}
use Rattle.tko_metrics.specs.declared.reading.ServerReading.{ServerReading}
use Rattle.tko_metrics.specs.Loads.{AreWorkers}
use Rattle.tko_metrics.specs.Meters.{parts_of}
use Rattle.tko_metrics.specs.Readings.{AreOfWorkers}

range_next : (count : ℕ)
    → range_with_len 0 (count + 1) ≡ range_with_len 0 count ++ count ∷ []
range_next count =
    let from_none : 0 + count ≡ count = omega arith in
    sym (map-id (range_with_len 0 (count + 1)))
    ∙ map-range_with_len_more (λ number. number) 0 count count from_none
    ∙ ap (λ numbers. numbers ++ count ∷ []) (map-id (range_with_len 0 count))

-- one worker more
pub workers_next : (count : ℕ) (workers : List WorkerReading) (it : WorkerReading)
    → AreWorkers count workers → it.worker ≡ count → AreWorkers (count + 1) (workers ++ it ∷ [])
workers_next count workers it are is =
    map-append (λ each. each.worker) workers (it ∷ [])
    ∙ ap (λ numbers. numbers ++ it.worker ∷ []) are
    ∙ ap (λ number. range_with_len 0 count ++ number ∷ []) is
    ∙ sym (range_next count)

-- what one worker more counted of a server
pub parts_next : (count : ℕ) (parts : List ServerReading) (part : ServerReading)
    → AreOfWorkers count parts → part.worker ≡ count → AreOfWorkers (count + 1) (parts ++ part ∷ [])
parts_next count parts part are is =
    map-append (λ each. each.worker) parts (part ∷ [])
    ∙ ap (λ numbers. numbers ++ part.worker ∷ []) are
    ∙ ap (λ number. range_with_len 0 count ++ number ∷ []) is
    ∙ sym (range_next count)

-- what holds of each, and of one more, holds of all
pub all_more : {X : Type 0} (P : X → Type 0) (xs all : List X) (x : X)
    → All P xs → P x → all ≡ xs ++ x ∷ [] → All P all
all_more P xs all x are is e =
    All-same P all (xs ++ x ∷ []) e
    (All-append P xs (x ∷ []) are (All-cons P x [] is (All-nil P)))

-- the numbers that a page shows are those of the meter's parts, or none
pub parts_shown : (found : Option (Bor SharedMeter)) (nothing : Bor SharedMeter)
    → nothing.now.workers.items ≡ []
    → length (unwrap_or found nothing).now.workers.items ≡ parts_of (option_copied found)
parts_shown None nothing none = ap length none
parts_shown (Some shared) nothing none = refl

-- what a list has of each number below, with that of one number more
pub each-next : (of : ℕ → ℕ) (count : ℕ) (before all : List ℕ) (last : ℕ)
    → before ≡ map of (range_with_len 0 count) → last ≡ of count
    → all ≡ before ++ last ∷ [] → all ≡ map of (range_with_len 0 (count + 1))
each-next of count before all last is one e =
    let more = map-range_with_len_more of 0 count count (omega arith) in
    rw (e, is, one) (sym more)
