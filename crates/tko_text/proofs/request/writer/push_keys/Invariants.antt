use Rattle.std.proofs.Common.{◌≡◌, ◌++◌, drop, length, take}
use Rattle.tko_text.specs.Requests.{keys_text}
use Rattle.tko_text.proofs.request.writer.push_keys.Given as goal

-- what is left makes what all make, and nothing that was there is lost
abbrev pub invariant-loop-key : goal.invariant-loop-key
invariant-loop-key l = record {
  text : l.out.items ++ keys_text (drop l.key-index l.keys)
      ≡ l.fn.out.items ++ l.word ++ keys_text l.keys;
  begins : take (length l.fn.out.items) l.out.items ≡ l.fn.out.items;
}
