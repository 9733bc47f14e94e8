-- The lines of a header, one after another: what a text says once some of its lines were read, and once one is bad.
use Rattle.std.proofs.Common.{◌≡◌, ℕ, ◌-◌, drop, List, Ok, Err, refl, ap, sym, ◌∙◌, length}
use Rattle.std.specs.Prelude.{Result, codes}
use Rattle.std.proofs.lemmas.List.{drop-drop}
use Rattle.tko_model.specs.Settings.{Settings, in_one_group}
use Rattle.tko_runs.specs.declared.schedule.fault.ScheduleFault.{ScheduleFault}
use Rattle.tko_runs.specs.declared.schedule.fault.ScheduleFault.TheVariants as fault
use Rattle.tko_runs.specs.declared.schedule.header.HeaderSettings.{HeaderSettings}
use Rattle.tko_runs.specs.declared.version.Version.{Version}
use Rattle.tko_runs.specs.declared.version.Version.TheVariants.{One, Two, Three}
use Rattle.tko_runs.specs.Headers.{HasLine, LacksLine}
use Rattle.tko_bytes.specs.Lines.{lines_of}
use Rattle.tko_runs.specs.ScheduleHeaders.{counts_in, header, header_number, header_numbers, in_field, one_group_in, settings_in, several_groups_in, version_in, with_groups}
use Rattle.tko_runs.specs.Schedules.{IsFault}
use Rattle.tko_runs.specs.Versions.{header_lines}
use Rattle.tko_bytes.specs.Fields.{fields_in}
use Rattle.tko_runs.proofs.CommandLemmas.{lines_of-empty}

-- Faults.

pub is_fault : {A : Type 0} (read : Result A ScheduleFault) (told : ScheduleFault) → read ≡ Err told → IsFault read told
is_fault read (fault.Line number) e = e
is_fault read (fault.Settings outside) e = e
is_fault read fault.Memory e = tt

pub is_memory : {A : Type 0} (read : Result A ScheduleFault) (told : ScheduleFault) → told ≡ fault.Memory → IsFault read told
is_memory read told e = rw e tt

-- what a part could not read, the whole could not
pub passes : {A B : Type 0} (part : Result A ScheduleFault) (read : Result B ScheduleFault) (told : ScheduleFault)
    → (part ≡ Err told → read ≡ Err told) → IsFault part told → IsFault read told
passes part read (fault.Line number) goes e = goes e
passes part read (fault.Settings outside) goes e = goes e
passes part read fault.Memory goes e = tt

-- A text that has ended lacks each line.

pub lacks_title-empty : (text : List ℕ) → length text ≡ 0 → LacksLine 1 version_in text (fault.Line 1)
lacks_title-empty text e = record { bad = refl; is = rw (lines_of-empty text e) refl }

pub lacks_number-empty : (line : ℕ) (name text : List ℕ) → length text ≡ 0
    → LacksLine line (header_number name) text (fault.Line line)
unfolding fields_in
lacks_number-empty line name text e = record { bad = refl; is = rw (lines_of-empty text e) refl }

pub lacks_list-empty : (line : ℕ) (name text : List ℕ) → length text ≡ 0
    → LacksLine line (header_numbers name) text (fault.Line line)
unfolding fields_in
lacks_list-empty line name text e = record { bad = refl; is = rw (lines_of-empty text e) refl }

-- The lines of each version.

pub counts_in-lacks1 : (text : List ℕ) (told : ScheduleFault)
    → LacksLine 2 (header_number (codes "servers")) text told
    → counts_in (lines_of text) ≡ Err told
unfolding counts_in
counts_in-lacks1 text told bad =
    rw (bad.is, bad.bad) refl

pub counts_in-lacks2 : (text r1 : List ℕ) (servers : ℕ) (told : ScheduleFault)
    → HasLine (header_number (codes "servers")) text servers r1
    → LacksLine 3 (header_number (codes "threads")) r1 told
    → counts_in (lines_of text) ≡ Err told
unfolding counts_in
counts_in-lacks2 text r1 servers told one bad =
    rw (one.lines, one.is, bad.is, bad.bad) refl

pub counts_in-lacks3 : (text r1 r2 : List ℕ) (servers threads : ℕ) (told : ScheduleFault)
    → HasLine (header_number (codes "servers")) text servers r1
    → HasLine (header_number (codes "threads")) r1 threads r2
    → LacksLine 4 (header_number (codes "failures")) r2 told
    → counts_in (lines_of text) ≡ Err told
unfolding counts_in
counts_in-lacks3 text r1 r2 servers threads told one two bad =
    rw (one.lines, one.is, two.lines, two.is, bad.is, bad.bad) refl

pub counts_in-has : (text r1 r2 r3 : List ℕ) (servers threads failures : ℕ)
    → HasLine (header_number (codes "servers")) text servers r1
    → HasLine (header_number (codes "threads")) r1 threads r2
    → HasLine (header_number (codes "failures")) r2 failures r3
    → counts_in (lines_of text) ≡ Ok (record { servers = in_field servers; threads = in_field threads; failures = in_field failures })
unfolding counts_in
counts_in-has text r1 r2 r3 servers threads failures one two three =
    rw (one.lines, one.is, two.lines, two.is, three.lines, three.is) refl

pub counts_in-rest : (text r1 r2 r3 : List ℕ) (servers threads failures : ℕ)
    → HasLine (header_number (codes "servers")) text servers r1
    → HasLine (header_number (codes "threads")) r1 threads r2
    → HasLine (header_number (codes "failures")) r2 failures r3
    → lines_of r3 ≡ drop 3 (lines_of text)
counts_in-rest text r1 r2 r3 servers threads failures one two three =
    rw (one.lines, two.lines, three.lines) refl

-- Those of the first version.

pub one_group_in-lacks1 : (counts : HeaderSettings) (text : List ℕ) (told : ScheduleFault)
    → LacksLine 5 (header_number (codes "limit")) text told
    → one_group_in counts (lines_of text) ≡ Err told
unfolding one_group_in
one_group_in-lacks1 counts text told bad =
    rw (bad.is, bad.bad) refl

pub one_group_in-lacks2 : (counts : HeaderSettings) (text r1 : List ℕ) (limit : ℕ) (told : ScheduleFault)
    → HasLine (header_number (codes "limit")) text limit r1
    → LacksLine 6 (header_number (codes "tries")) r1 told
    → one_group_in counts (lines_of text) ≡ Err told
unfolding one_group_in
one_group_in-lacks2 counts text r1 limit told one bad =
    rw (one.lines, one.is, bad.is, bad.bad) refl

pub one_group_in-lacks3 : (counts : HeaderSettings) (text r1 r2 : List ℕ) (limit tries : ℕ) (told : ScheduleFault)
    → HasLine (header_number (codes "limit")) text limit r1
    → HasLine (header_number (codes "tries")) r1 tries r2
    → LacksLine 7 (header_number (codes "stamp")) r2 told
    → one_group_in counts (lines_of text) ≡ Err told
unfolding one_group_in
one_group_in-lacks3 counts text r1 r2 limit tries told one two bad =
    rw (one.lines, one.is, two.lines, two.is, bad.is, bad.bad) refl

pub one_group_in-has : (counts : HeaderSettings) (text r1 r2 r3 : List ℕ) (limit tries stamp : ℕ)
    → HasLine (header_number (codes "limit")) text limit r1
    → HasLine (header_number (codes "tries")) r1 tries r2
    → HasLine (header_number (codes "stamp")) r2 stamp r3
    → one_group_in counts (lines_of text) ≡ Ok (in_one_group (record { servers = counts.servers; threads = counts.threads; failures = counts.failures; limit = in_field limit; tries = in_field tries; opening_stamp = stamp }))
unfolding one_group_in
one_group_in-has counts text r1 r2 r3 limit tries stamp one two three =
    rw (one.lines, one.is, two.lines, two.is, three.lines, three.is) refl

pub one_group_in-rest : (text r1 r2 r3 : List ℕ) (limit tries stamp : ℕ)
    → HasLine (header_number (codes "limit")) text limit r1
    → HasLine (header_number (codes "tries")) r1 tries r2
    → HasLine (header_number (codes "stamp")) r2 stamp r3
    → lines_of r3 ≡ drop 3 (lines_of text)
one_group_in-rest text r1 r2 r3 limit tries stamp one two three =
    rw (one.lines, two.lines, three.lines) refl

-- Those of the others.

pub groups_in-lacks1 : (counts : HeaderSettings) (text : List ℕ) (told : ScheduleFault)
    → LacksLine 5 (header_numbers (codes "limits")) text told
    → several_groups_in counts (lines_of text) ≡ Err told
unfolding several_groups_in
groups_in-lacks1 counts text told bad =
    rw (bad.is, bad.bad) refl

pub groups_in-lacks2 : (counts : HeaderSettings) (text r1 : List ℕ) (limits : List ℕ) (told : ScheduleFault)
    → HasLine (header_numbers (codes "limits")) text limits r1
    → LacksLine 6 (header_numbers (codes "groups")) r1 told
    → several_groups_in counts (lines_of text) ≡ Err told
unfolding several_groups_in
groups_in-lacks2 counts text r1 limits told one bad =
    rw (one.lines, one.is, bad.is, bad.bad) refl

pub groups_in-lacks3 : (counts : HeaderSettings) (text r1 r2 : List ℕ) (limits groups : List ℕ) (told : ScheduleFault)
    → HasLine (header_numbers (codes "limits")) text limits r1
    → HasLine (header_numbers (codes "groups")) r1 groups r2
    → LacksLine 7 (header_number (codes "tries")) r2 told
    → several_groups_in counts (lines_of text) ≡ Err told
unfolding several_groups_in
groups_in-lacks3 counts text r1 r2 limits groups told one two bad =
    rw (one.lines, one.is, two.lines, two.is, bad.is, bad.bad) refl

pub groups_in-lacks4 : (counts : HeaderSettings) (text r1 r2 r3 : List ℕ) (tries : ℕ) (limits groups : List ℕ) (told : ScheduleFault)
    → HasLine (header_numbers (codes "limits")) text limits r1
    → HasLine (header_numbers (codes "groups")) r1 groups r2
    → HasLine (header_number (codes "tries")) r2 tries r3
    → LacksLine 8 (header_number (codes "stamp")) r3 told
    → several_groups_in counts (lines_of text) ≡ Err told
unfolding several_groups_in
groups_in-lacks4 counts text r1 r2 r3 tries limits groups told one two three bad =
    rw (one.lines, one.is, two.lines, two.is, three.lines, three.is, bad.is, bad.bad) refl

pub groups_in-has : (counts : HeaderSettings) (text r1 r2 r3 r4 : List ℕ) (tries stamp : ℕ) (limits groups : List ℕ)
    → HasLine (header_numbers (codes "limits")) text limits r1
    → HasLine (header_numbers (codes "groups")) r1 groups r2
    → HasLine (header_number (codes "tries")) r2 tries r3
    → HasLine (header_number (codes "stamp")) r3 stamp r4
    → several_groups_in counts (lines_of text) ≡ Ok (with_groups counts limits groups (in_field tries) stamp)
unfolding several_groups_in
groups_in-has counts text r1 r2 r3 r4 tries stamp limits groups one two three four =
    rw (one.lines, one.is, two.lines, two.is, three.lines, three.is, four.lines, four.is) refl

pub groups_in-rest : (text r1 r2 r3 r4 : List ℕ) (tries stamp : ℕ) (limits groups : List ℕ)
    → HasLine (header_numbers (codes "limits")) text limits r1
    → HasLine (header_numbers (codes "groups")) r1 groups r2
    → HasLine (header_number (codes "tries")) r2 tries r3
    → HasLine (header_number (codes "stamp")) r3 stamp r4
    → lines_of r4 ≡ drop 4 (lines_of text)
groups_in-rest text r1 r2 r3 r4 tries stamp limits groups one two three four =
    rw (one.lines, two.lines, three.lines, four.lines) refl

-- The whole header.

pub header-lacks_title : (text : List ℕ) (told : ScheduleFault) → LacksLine 1 version_in text told → header (lines_of text) ≡ Err told
unfolding header
header-lacks_title text told bad = rw (bad.is, bad.bad) refl

pub header-lacks_counts : (text r1 : List ℕ) (version : Version) (told : ScheduleFault) → HasLine version_in text version r1
    → counts_in (lines_of r1) ≡ Err told → header (lines_of text) ≡ Err told
unfolding header
header-lacks_counts text r1 version told one bad = rw (one.lines, one.is, bad) refl

pub header-lacks_settings : (text r1 r2 : List ℕ) (version : Version) (counts : HeaderSettings) (told : ScheduleFault)
    → HasLine version_in text version r1 → counts_in (lines_of r1) ≡ Ok counts → lines_of r2 ≡ drop 3 (lines_of r1)
    → settings_in version counts (lines_of r2) ≡ Err told → header (lines_of text) ≡ Err told
unfolding header
header-lacks_settings text r1 r2 version counts told one two rest bad =
    rw (one.lines, one.is, two, sym rest, bad) refl

pub header-has : (text r1 r2 : List ℕ) (version : Version) (counts : HeaderSettings) (settings : Settings)
    → HasLine version_in text version r1 → counts_in (lines_of r1) ≡ Ok counts → lines_of r2 ≡ drop 3 (lines_of r1)
    → settings_in version counts (lines_of r2) ≡ Ok settings
    → header (lines_of text) ≡ Ok (record { version = version; settings = settings })
unfolding header
header-has text r1 r2 version counts settings one two rest good =
    rw (one.lines, one.is, two, sym rest, good) refl

-- the lines after the whole header
pub header-rest : (version : Version) (text r1 r2 r3 : List ℕ) → HasLine version_in text version r1
    → lines_of r2 ≡ drop 3 (lines_of r1) → lines_of r3 ≡ drop (header_lines version - 4) (lines_of r2)
    → lines_of r3 ≡ drop (header_lines version) (lines_of text)
header-rest One text r1 r2 r3 one two three = three ∙ ap (drop 3) two ∙ drop-drop 3 3 (lines_of r1) ∙ rw one.lines refl
header-rest Two text r1 r2 r3 one two three = three ∙ ap (drop 4) two ∙ drop-drop 4 3 (lines_of r1) ∙ rw one.lines refl
header-rest Three text r1 r2 r3 one two three = three ∙ ap (drop 4) two ∙ drop-drop 4 3 (lines_of r1) ∙ rw one.lines refl
