-- What came of each server, in the order of their numbers.
use Rattle.std.proofs.Common.{◌≡◌, ℕ, ◌<◌, List, length, map, ap, sym, ◌∙◌, subst, IfOk, Result, Ok, Some, option_map, slice_get, slice_index_or}
use Rattle.std.proofs.lemmas.List.{length-map}
use Rattle.std.proofs.lemmas.Option.{get_or_from_slice_get, slice_get-map, slice_get_within}
use Rattle.tko_bytes.specs.declared.memory.NoMemory.{NoMemory}
use Rattle.tko_reach.specs.Reaching.{AreReached, IsReachedAt}
use Rattle.tko_reach.specs.declared.reach.Reached.{Reached}

ok_at : (servers : List Reached) (number : ℕ) (server : Reached) (d : Result Reached NoMemory)
    → slice_get servers number ≡ Some server → slice_index_or (map Ok servers) number d ≡ Ok server
ok_at servers number server d at =
    get_or_from_slice_get (map Ok servers) number (Ok server) d
    (slice_get-map Ok servers number ∙ ap (option_map Ok) at)

-- where each call returned a server that was asked, they are those of the list
pub all_reached : (limit : ℕ) (addresses : List (List ℕ)) (asked : List (Result Reached NoMemory))
    (servers : List Reached) → map Ok servers ≡ asked → length asked ≡ length addresses
    → ((number : ℕ) (d : Result Reached NoMemory) → number < length addresses
    → IfOk (slice_index_or asked number d) (IsReachedAt limit addresses number))
    → AreReached limit addresses servers
all_reached limit addresses asked servers same count each =
    let size = sym (length-map servers Ok) ∙ ap length same ∙ count in
    record {
      count = size;
      each = λ number server at.
          let below = subst (λ n. number < n) size (slice_get_within servers number server at) in
          let is = ap (λ xs. slice_index_or xs number (Ok server)) (sym same)
          ∙ ok_at servers number server (Ok server) at in
          subst (λ it. IfOk it (IsReachedAt limit addresses number)) is
          (each number (Ok server) below);
    }
