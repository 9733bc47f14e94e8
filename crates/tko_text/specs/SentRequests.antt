-- The forms in which a request is sent to a server: without `noreply`, and with another expiry.
use Rattle.std.specs.Prelude.{ℕ, ℤ, pos, negsuc, zero, suc, min, Bool, false}
use Rattle.tko_text.specs.declared.request.Entry.{Entry}
use Rattle.tko_text.specs.declared.request.Request.{Request}
use Rattle.tko_text.specs.declared.request.Request.TheVariants.{Store, Cas, Delete, Incr, Decr, Touch}

-- whether a request asks for no reply
abbrev pub asks_no_reply : Request → Bool
asks_no_reply (Store verb entry noreply) = noreply
asks_no_reply (Cas entry unique noreply) = noreply
asks_no_reply (Delete key noreply) = noreply
asks_no_reply (Incr key amount noreply) = noreply
asks_no_reply (Decr key amount noreply) = noreply
asks_no_reply (Touch key expiry noreply) = noreply
asks_no_reply _ = false

-- the same request, which asks for its reply
abbrev pub without_noreply : Request → Request
without_noreply (Store verb entry noreply) = Store verb entry false
without_noreply (Cas entry unique noreply) = Cas entry unique false
without_noreply (Delete key noreply) = Delete key false
without_noreply (Incr key amount noreply) = Incr key amount false
without_noreply (Decr key amount noreply) = Decr key amount false
without_noreply (Touch key expiry noreply) = Touch key expiry false
without_noreply request = request

-- an expiry, where an entry has to expire after n seconds at the latest; n = 0 is no such limit.
-- The expiry 0 means never, and one below 0 means at once.
abbrev pub replaced_expiry : ℕ → ℤ → ℤ
replaced_expiry zero expiry = expiry
replaced_expiry (suc n) (pos zero) = pos (suc n)
replaced_expiry (suc n) (pos (suc seconds)) = pos (min (suc seconds) (suc n))
replaced_expiry (suc n) (negsuc seconds) = negsuc seconds

-- an entry with its expiry replaced
abbrev pub expiring : ℕ → Entry → Entry
expiring exptime entry =
    record {
      key = entry.key;
      flags = entry.flags;
      expiry = replaced_expiry exptime entry.expiry;
      value = entry.value;
    }

-- a request with the expiry of what it stores replaced; one that stores nothing stays as it is
abbrev pub with_replaced_expiry : ℕ → Request → Request
with_replaced_expiry exptime (Store verb entry noreply) =
    Store verb (expiring exptime entry) noreply
with_replaced_expiry exptime (Cas entry unique noreply) =
    Cas (expiring exptime entry) unique noreply
with_replaced_expiry exptime request = request
