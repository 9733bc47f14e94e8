-- The status text, one line after another.
use Rattle.std.proofs.Common.{◌≡◌, ℕ, ◌+◌, ◌<◌, ◌≤◌, zero, suc, List, [], ◌∷◌, ◌++◌, get_or, length}
use Rattle.std.proofs.Common.{map, take, refl, sym, ap, subst, ◌∙◌, append_assoc, append-nil}
use Rattle.std.proofs.Common.{add-zero, arith}
use Rattle.std.specs.Prelude.{codes, flat_map}
use Rattle.std.proofs.lemmas.Grind.{flat_map-append}
use Rattle.std.proofs.lemmas.List.{length-map, length-take-le, map-append, take_all}
use Rattle.tko_model.specs.declared.look.Look.{Look}
use Rattle.tko_model.specs.Records.{HealthItem, Gains}
use Rattle.tko_model.proofs.RecordLemmas.{gains_one, gains_append}
use Rattle.tko_health.specs.Health.{look_item}
use Rattle.tko_reply.specs.Answering.{Extends}
use Rattle.tko_reply.specs.Cuts.{LooksSome}
use Rattle.tko_reply.specs.Status.{IsStatusAfter, LookedServer, addresses_in, looks_from, mark_line}
use Rattle.tko_reply.specs.Status.{mark_of, status_line}

-- the first servers were looked up, and their lines were put at the end of a buffer
pub record HasLines {H : Type 0} (steps : H → HealthItem → H → Type 0)
    (addresses : List (List ℕ)) (old : H) (out : List ℕ) (new : H) (out' : List ℕ)
    : Type 0 where
  pub servers : List LookedServer
  pub all : addresses_in servers ≡ addresses
  pub looks : Gains steps old (looks_from 0 servers) new
  pub lines : out' ≡ out ++ flat_map status_line servers

-- one more element of a list that is mapped
take-next-mapped : {A : Type 0} (f : A → List ℕ) (xs : List A) (n : ℕ) (x : A) → n < length xs
    → x ≡ get_or xs n x
    → take (suc n) (map f xs) ≡ take n (map f xs) ++ f x ∷ []
take-next-mapped f [] n x below is = absurd (omega (arith, below))
take-next-mapped f (y ∷ ys) zero x below is = ap (λ z. f z ∷ []) (sym is)
take-next-mapped f (y ∷ ys) (suc n) x below is =
    ap (λ zs. f y ∷ zs) (take-next-mapped f ys n x (omega (arith, below)) is)

pub take-mapped : {A : Type 0} (f : A → List ℕ) (xs : List A) (n : ℕ) (x : A) → n < length xs
    → x ≡ get_or xs n x
    → take n (map f xs) ++ f x ∷ [] ≡ take (n + 1) (map f xs)
take-mapped f xs n x below is =
    let next : n + 1 ≡ suc n = omega arith in
    sym (ap (λ m. take m (map f xs)) next ∙ take-next-mapped f xs n x below is)

pub taken-mapped : {A : Type 0} (f : A → List ℕ) (xs : List A) (n : ℕ) → n ≤ length xs
    → n ≡ length (take n (map f xs))
taken-mapped f xs n within =
    sym (length-take-le n (map f xs) (omega (arith, within, length-map xs f)))

pub taken-all : {A : Type 0} (f : A → List ℕ) (xs : List A) (n : ℕ) → length xs ≤ n
    → take n (map f xs) ≡ map f xs
taken-all f xs n all = take_all n (map f xs) (omega (arith, all, length-map xs f))

looks-last : (n : ℕ) (servers : List LookedServer) (last : LookedServer)
    → looks_from n (servers ++ last ∷ []) ≡ looks_from n servers ++ look_item
    (n + length servers) last.found ∷ []
looks-last n [] last = ap (λ m. look_item m last.found ∷ []) (sym (add-zero n))
looks-last n (server ∷ servers) last =
    let number : n + 1 + length servers ≡ n + length (server ∷ servers) = omega arith in
    ap (λ rest. look_item n server.found ∷ rest)
    (looks-last (n + 1) servers last
    ∙ ap (λ m. looks_from (n + 1) servers ++ look_item m last.found ∷ []) number)

module _ {H : Type 0} {steps : H → HealthItem → H → Type 0} where
  -- one more server was looked up
  pub lines_more : {addresses : List (List ℕ)} {old mid new : H} {out out' out'' : List ℕ}
      (address : List ℕ) (found : Look) (number : ℕ)
      → HasLines steps addresses old out mid out' → number ≡ length addresses
      → steps mid (look_item number found) new
      → out'' ≡ out' ++ mark_line address (mark_of found)
      → HasLines steps (addresses ++ address ∷ []) old out new out''
  lines_more {addresses} {old} {mid} {new} {out} {out'} {out''} address found number has is step
      line =
      let last : LookedServer = record { address = address; found = found } in
      let len : 0 + length has.servers ≡ number =
      omega (arith, length-map has.servers (λ server. server.address), ap length has.all, is) in
      record {
        servers = has.servers ++ last ∷ [];
        all = map-append (λ server. server.address) has.servers (last ∷ [])
            ∙ ap (λ xs. xs ++ address ∷ []) has.all;
        looks =
            let items : looks_from 0 (has.servers ++ last ∷ []) ≡ looks_from 0 has.servers
            ++ look_item number found ∷ [] =
            looks-last 0 has.servers last
            ∙ ap (λ m. looks_from 0 has.servers ++ look_item m found ∷ []) len in
            subst (λ items. Gains steps old items new) (sym items)
            (gains_append has.looks (gains_one step));
        lines =
            line ∙ ap (λ xs. xs ++ mark_line address (mark_of found)) has.lines
            ∙ append_assoc out (flat_map status_line has.servers)
            (mark_line address (mark_of found))
            ∙ ap (λ xs. out ++ xs)
            (ap (λ xs. flat_map status_line has.servers ++ xs)
            (sym (append-nil (mark_line address (mark_of found))))
            ∙ sym (flat_map-append status_line has.servers (last ∷ [])));
      }

  -- the line `END` makes them a status text
  pub lines_end : {addresses : List (List ℕ)} {old new : H} {out out' out'' : List ℕ}
      → HasLines steps addresses old out new out' → out'' ≡ out' ++ codes "END\r\n"
      → IsStatusAfter steps addresses (old, out) (new, out'')
  lines_end {addresses} {old} {new} {out} {out'} {out''} has end = record {
    text = flat_map status_line has.servers ++ codes "END\r\n";
    status = record {
      looks = looks_from 0 has.servers;
      is = record { servers = has.servers; all = has.all; are = refl; lines = refl };
      gains = has.looks;
    };
    appended =
        end ∙ ap (λ xs. xs ++ codes "END\r\n") has.lines
        ∙ append_assoc out (flat_map status_line has.servers) (codes "END\r\n");
  }

  pub lines_extend : {addresses : List (List ℕ)} {old new : H} {out out' out'' : List ℕ}
      → HasLines steps addresses old out new out' → Extends out' out'' → Extends out out''
  lines_extend {addresses} {old} {new} {out} {out'} {out''} has more = record {
    more = flat_map status_line has.servers ++ more.more;
    is =
        more.is ∙ ap (λ xs. xs ++ more.more) has.lines
        ∙ append_assoc out (flat_map status_line has.servers) more.more;
  }

  -- these servers were looked up, and those that are left were not
  pub looks_some : {addresses : List (List ℕ)} {old new : H} {out out' : List ℕ}
      (all unlooked : List (List ℕ))
      → all ≡ addresses ++ unlooked → HasLines steps addresses old out new out'
      → LooksSome steps all old new
  looks_some all unlooked is has = record {
    servers = has.servers;
    unlooked = unlooked;
    parts = is ∙ ap (λ xs. xs ++ unlooked) (sym has.all);
    looks = has.looks;
  }
