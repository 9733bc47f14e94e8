use Rattle.std.proofs.Common.{List, [], ◌-◌, get_or, length, refl, subst, sym}
use Rattle.std.proofs.lemmas.List.{get_or_read}
use Rattle.std.proofs.lemmas.Result.{err_from_is_err_and}
use Rattle.tko_text.specs.declared.response.place.ValuePlace.{ValuePlace}
use Rattle.tko_text.specs.ListingFaults.{IsOtherLine, ReadsList}
use Rattle.tko_text.specs.Places.{keys_at}
use Rattle.tko_text.proofs.ListingFaultLemmas.{list_end_fault}
use Rattle.tko_text.proofs.PlaceLemmas.{PartlyRead, partly_end, partly_fault, partly_more}
use Rattle.tko_text.proofs.response.list.read_places.Goals as goal

pub returns-in_err-found : goal.returns-in_err-found
returns-in_err-found c =
    let p = err_from_is_err_and c.from_residual-in_err-found.result c.from_residual-in_err-found.ensures.1 in
    let fault = c.in_err-found.field-0.0 in
    rw (p.1, p.2) (partly_fault fault c.args.keys.now c.args.unique c.args.bytes.now c.loop-places.places c.loop-places.rest.now
    c.loop-places.invariant.read
    c.in_err-found.ensures)

pub loop-places-preserved : goal.loop-places-preserved
loop-places-preserved c =
    let keys = c.args.keys.now in
    let found = c.in-Some.found in
    let key = get_or keys found.index [] in
    let told = rw c.in-Some.is at c.in_ok-found.ensures in
    record {
      read = subst (λ (places : List ValuePlace). PartlyRead keys c.args.unique c.args.bytes.now places found.rest.now)
          (sym c.in_ok-push.ensures)
          (partly_more keys c.args.unique c.args.bytes.now c.loop-places.places c.loop-places.rest.now c.loop-places.invariant.read
          key found.head found.data.now found.rest.now told.1 _ (get_or_read keys found.index c.index-keys-found.result told.0 c.index-keys-found.is []) refl refl);
    }

pub returns-in_err-rest : goal.returns-in_err-rest
returns-in_err-rest c =
    let p = err_from_is_err_and c.from_residual-in_err-rest.result c.from_residual-in_err-rest.ensures.1 in
    let fault = c.in_err-rest.field-0.0 in
    let other : IsOtherLine c.loop-places.rest.now = rw c.in_default.is at c.in_ok-found.ensures in
    rw (p.1, p.2) (partly_fault fault c.args.keys.now c.args.unique c.args.bytes.now c.loop-places.places c.loop-places.rest.now
    c.loop-places.invariant.read
    (list_end_fault c.args.keys.now c.args.unique (keys_at c.loop-places.places) c.loop-places.rest.now fault other c.in_err-rest.ensures))

pub returns : goal.returns
returns c =
    let bytes = c.args.bytes.now in
    let rest = c.in_ok-rest.rest.now in
    subst (λ (places : List ValuePlace). ReadsList c.args.keys.now c.args.unique bytes places (length bytes - length rest)) (sym c.into_vec.ensures)
    (partly_end c.args.keys.now c.args.unique bytes c.loop-places.places c.loop-places.rest.now rest c.loop-places.invariant.read c.in_ok-rest.ensures)
