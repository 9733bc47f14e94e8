-- The words that threads share: the health word of a server, which holds its mark and its stamp,
-- and the soft word, which holds the two counts of soft marks.
use Rattle.std.specs.Prelude.{◌≡◌, ℕ, ◌+◌, ◌-◌, ◌*◌, ◌/◌, ◌%◌, ◌^◌, ◌<◌, ◌==◌, nat_lt, if◌then◌else◌}
use Rattle.tko_model.specs.declared.layout.Layout.{Layout}
use Rattle.tko_model.specs.declared.layout.Layout.TheVariants as layout
use Rattle.tko_model.specs.declared.mark.Mark.{Mark}
use Rattle.tko_model.specs.declared.mark.Mark.TheVariants.{Up, Soft, Hard}
use Rattle.tko_model.specs.declared.state.ServerState.{ServerState}
use Rattle.tko_model.specs.Limits.{max_failures, max_threads}
use Rattle.tko_model.specs.Settings.{Settings}

-- a stamp counts up in steps of this; a body lies below it
abbrev pub body_size : ℕ
body_size = 8192

-- the bodies of unmarked servers lie below this
abbrev pub marked : ℕ
marked = 4096

-- every stamp lies below this
abbrev pub stamp_end : ℕ
stamp_end = 2 ^ 51

-- what stands for a mark: the count, or the thread's number, doubled, and 1 where the mark is hard
abbrev pub body_of : Mark → ℕ
body_of (Up count) = count
body_of (Soft thread) = marked + 2 * thread
body_of (Hard thread) = marked + 2 * thread + 1

-- the health word of a server with this mark and this stamp
abbrev pub health_word : Mark → ℕ → ℕ
health_word mark stamp = stamp * body_size + body_of mark

-- the soft word: `firm` soft marks are settled, and `held` calls hold a slot for one
abbrev pub soft_word : ℕ → ℕ → ℕ
soft_word firm held = firm + 2 ^ 32 * held

-- one held slot, as the soft word counts it: taking it from the word gives a slot back
abbrev pub one_slot : ℕ
one_slot = 2 ^ 32

-- what a settled mark lacks of a held slot, as the soft word counts them: adding it loosens a mark,
-- taking it from the word settles one
abbrev pub slot_over_mark : ℕ
slot_over_mark = 2 ^ 32 - 1

-- a word of 64 bits after this was added to it, or taken from it; both wrap
abbrev pub word_plus : ℕ → ℕ → ℕ
word_plus word amount = (word + amount) % 2 ^ 64

abbrev pub word_minus : ℕ → ℕ → ℕ
word_minus word amount = (word + (2 ^ 64 - amount)) % 2 ^ 64

-- the counts that a soft word holds
unfoldable pub firm_in : ℕ → ℕ
firm_in word = word % 2 ^ 32

unfoldable pub held_in : ℕ → ℕ
held_in word = word / 2 ^ 32

-- a mark that some settings in range of this layout allow
abbrev pub IsMarkIn : Layout → Mark → Type 0
IsMarkIn layout (Up count) = count < max_failures layout
IsMarkIn layout (Soft thread) = thread < max_threads layout
IsMarkIn layout (Hard thread) = thread < max_threads layout

-- a mark that some settings in range allow
abbrev pub IsMark : Mark → Type 0
IsMark mark = IsMarkIn layout.Two mark

-- a mark that these settings allow
abbrev pub IsMarkOf : Settings → Mark → Type 0
IsMarkOf s (Up count) = count < s.failures
IsMarkOf s (Soft thread) = thread < s.threads
IsMarkOf s (Hard thread) = thread < s.threads

-- the word of some mark and stamp
pub record IsWord (word : ℕ) : Type 0 where
  pub mark : Mark
  pub stamp : ℕ
  pub allowed : IsMark mark
  pub below : stamp < stamp_end
  pub is : word ≡ health_word mark stamp

-- the word of some stamp and a mark that these settings and the layout allow
pub record IsWordIn (layout : Layout) (s : Settings) (word : ℕ) : Type 0 where
  pub mark : Mark
  pub stamp : ℕ
  pub allowed : IsMarkOf s mark
  pub fits : IsMarkIn layout mark
  pub below : stamp < stamp_end
  pub is : word ≡ health_word mark stamp

-- the mark that a body stands for
abbrev pub mark_in : ℕ → Mark
mark_in body =
    if nat_lt body marked
    then Up body
    else (if (body - marked) % 2 == 0
    then Soft ((body - marked) / 2)
    else Hard ((body - marked) / 2))

-- the mark and the stamp that a health word holds
unfoldable pub server_in : ℕ → ServerState
server_in word = record { mark = mark_in (word % body_size); stamp = word / body_size }
