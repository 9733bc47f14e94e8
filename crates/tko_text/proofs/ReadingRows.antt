-- Rows of the grammar, computed: what some whole texts are.
use Rattle.std.proofs.Common.{◌≡◌, ◌≢◌, ℕ, [], List, Bool, codes, length, refl, pos, true}
use Rattle.std.proofs.Common.{arith, false, inl}
use Rattle.std.specs.List.{list_all}
use Rattle.std.specs.Prelude.{not, nat_le, ◌&&◌, ◌==◌}
use Rattle.std.proofs.lemmas.Bool.{and_parts, leb-true}
use Rattle.std.proofs.lemmas.Bool.Decides.{Decides-eqb, Decides-not}
use Rattle.std.proofs.lemmas.List.Elements.{All-weaker}
use Rattle.std.proofs.lemmas.List.Sums.{AllPass-from_list_all}
use Rattle.tko_text.specs.declared.fault.TextFault.TheVariants.{BadKey, BadChunk}
use Rattle.tko_text.specs.declared.item.Item.TheVariants as item
use Rattle.tko_text.specs.declared.request.Request.{Request}
use Rattle.tko_text.specs.declared.request.Request.TheVariants.{Store}
use Rattle.tko_text.specs.declared.request.Verb.TheVariants.{Set}
use Rattle.tko_bytes.specs.Lines.{line_feed}
use Rattle.tko_bytes.specs.Numbers.{number_of}
use Rattle.tko_text.specs.Commands.{Next, Pass, form_of}
use Rattle.tko_text.specs.Keys.{is_key}
use Rattle.tko_text.specs.Limits.{line_limit}
use Rattle.tko_text.specs.Lines.{IsLine}
use Rattle.tko_text.specs.Reading.{Emits, fed, reading_start}
use Rattle.tko_text.proofs.DataLemmas.{Emits-whole, Emits-wrong, Emits-wrong_line}
use Rattle.tko_text.proofs.ReadingLemmas.{Emits-line}

-- a line, by a test
line_by : (before : List ℕ)
    → list_all (λ b. not (b == line_feed)) before && nat_le (length before) line_limit ≡ true
    → IsLine before
line_by before test =
    let is_inside : ℕ → Bool = λ b. not (b == line_feed) in
    let parts = and_parts (list_all is_inside before) (nat_le (length before) line_limit) test in
    record {
      unended = All-weaker (λ b. not (b == line_feed) ≡ true) (λ b. b ≢ line_feed)
          (λ b h. (Decides-not _ (Decides-eqb b line_feed)).0 h)
          before (AllPass-from_list_all is_inside before parts.0);
      within = leb-true (length before) line_limit parts.1;
    }

-- the request that these data complete
abbrev set_a : List ℕ → Request
set_a value = Store Set (record { key = codes "a"; flags = 0; expiry = pos 0; value = value }) false

-- a bad chunk goes on to the first LF that follows the data
bad_chunk_then_version : Emits
    (fed reading_start (codes "set a 0 0 2\r\nxyz\r\nversion\r\n"))
    (item.Fault BadChunk)
    (fed reading_start (codes "version\r\n"))
unfolding is_key number_of form_of
bad_chunk_then_version =
    Emits-wrong (codes "set a 0 0 2\r") (codes "xyz\r\nversion\r\n") 2 set_a
    (line_by (codes "set a 0 0 2\r") refl) refl 3
    (inl (refl, omega arith, λ e. omega (arith, e), λ e. omega (arith, e)))

-- the LF right after the data of the wrong length ends the bad chunk, and is no line of its own
bad_chunk_at_line_feed : Emits
    (fed reading_start (codes "set a 0 0 2\nxy\nquit\n"))
    (item.Fault BadChunk)
    (fed reading_start (codes "quit\n"))
unfolding is_key number_of form_of
bad_chunk_at_line_feed =
    Emits-wrong_line (codes "set a 0 0 2") (codes "xy\nquit\n") 2 set_a
    (line_by (codes "set a 0 0 2") refl) refl 3 (refl, omega arith, refl)

-- data are counted, so that an LF among them is data
line_feed_in_data : Emits
    (fed reading_start (codes "set a 0 0 2\nx\n\r\nget"))
    (item.Request (set_a (codes "x\n")))
    (fed reading_start (codes "get"))
unfolding is_key number_of form_of
line_feed_in_data =
    Emits-whole (codes "set a 0 0 2") (codes "x\n\r\nget") 2 set_a
    (line_by (codes "set a 0 0 2") refl) refl (omega arith, refl, refl)

-- a bad key is followed by the next line once the data and their CR LF are skipped
bad_key_with_data : Emits
    (fed reading_start (codes "set a\tb 0 0 2\r\nxy\r\nquit\r\n"))
    (item.Fault BadKey)
    (fed reading_start (codes "quit\r\n"))
unfolding is_key number_of form_of
bad_key_with_data =
    Emits-line (codes "set a\tb 0 0 2\r") (codes "xy\r\nquit\r\n") (item.Fault BadKey) (Pass 4)
    (line_by (codes "set a\tb 0 0 2\r") refl) (refl, refl, refl)

-- so many bytes are skipped, in any pieces, and none of them is kept
skipped_in_pieces : fed (fed (record { after = Pass 5; unread = [] }) (codes "abc")) (codes "degs")
    ≡ record { after = Next; unread = codes "gs" }
skipped_in_pieces = refl

-- an unfinished item counts with its line
unfinished_data :
    length (fed (fed reading_start (codes "set a 0 0 5\r\n")) (codes "he")).unread ≡ 15
unfinished_data = refl
