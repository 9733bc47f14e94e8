-- A health word and what it holds: each is had from the other.
use Rattle.std.proofs.Common.{◌≡◌, ℕ, ◌+◌, ◌-◌, ◌*◌, ◌/◌, ◌%◌, ◌^◌, ◌<◌, cond, ltb, eqb, sym, ap, ◌∙◌, subst, inl, inr, arith, bit_and}
use Rattle.std.proofs.lemmas.Bool.{lt-ltb, le-ltb, eq-eqb, ne_eqb, cond-true, cond-false, ltb-false, eqb-true, eqb-false, cases_Bool}
use Rattle.std.proofs.lemmas.Nat.{and_mask, div-add-mod', div-mul-add, mod-mul-add, shr_below}
use Rattle.tko_model.specs.declared.mark.Mark.{Mark}
use Rattle.tko_model.specs.declared.mark.Mark.TheVariants.{Up, Soft, Hard}
use Rattle.tko_model.specs.declared.layout.Layout.{Layout}
use Rattle.tko_model.specs.declared.layout.Layout.TheVariants as layout
use Rattle.tko_model.specs.declared.state.ServerState.{ServerState}
use Rattle.tko_model.specs.Ranges.{IsWithinRanges}
use Rattle.tko_model.specs.Settings.{Settings}
use Rattle.tko_word.specs.Words.{IsMark, IsMarkIn, IsMarkOf, IsWord, IsWordIn, body_of, health_word, mark_in, server_in}

pub IsMark-of : (s : Settings) (mark : Mark) → IsWithinRanges s → IsMarkOf s mark → IsMark mark
IsMark-of s (Up count) ranges is = omega (arith, ranges.failures.1)
IsMark-of s (Soft thread) ranges is = omega (arith, ranges.threads.1)
IsMark-of s (Hard thread) ranges is = omega (arith, ranges.threads.1)

-- what the first layout allows the second allows
pub IsMark-in : (layout : Layout) (mark : Mark) → IsMarkIn layout mark → IsMark mark
IsMark-in layout.One (Up count) is = omega arith
IsMark-in layout.One (Soft thread) is = omega arith
IsMark-in layout.One (Hard thread) is = omega arith
IsMark-in layout.Two mark is = is

pub IsWord-in : (layout : Layout) (s : Settings) (word : ℕ) → IsWordIn layout s word → IsWord word
IsWord-in layout s word is =
    record {
      mark = is.mark;
      stamp = is.stamp;
      allowed = IsMark-in layout is.mark is.fits;
      below = is.below;
      is = is.is;
    }

pub body_of-below : (mark : Mark) → IsMark mark → body_of mark < 8192
body_of-below (Up count) is = omega arith
body_of-below (Soft thread) is = omega arith
body_of-below (Hard thread) is = omega arith

pub mark_in-body_of : (mark : Mark) → IsMark mark → mark_in (body_of mark) ≡ mark
mark_in-body_of (Up count) is = cond-true _ _ _ (lt-ltb count 4096 (omega arith))
mark_in-body_of (Soft thread) is =
    let even : (4096 + 2 * thread - 4096) % 2 ≡ 0 = omega arith in
    let half : (4096 + 2 * thread - 4096) / 2 ≡ thread = omega arith in
    cond-false _ _ _ (le-ltb (4096 + 2 * thread) 4096 (omega arith))
    ∙ cond-true _ _ _ (eq-eqb ((4096 + 2 * thread - 4096) % 2) 0 even)
    ∙ ap Soft half
mark_in-body_of (Hard thread) is =
    let odd : (4096 + 2 * thread + 1 - 4096) % 2 ≡ 0 → ⊥ = λ e. omega arith in
    let half : (4096 + 2 * thread + 1 - 4096) / 2 ≡ thread = omega arith in
    cond-false _ _ _ (le-ltb (4096 + 2 * thread + 1) 4096 (omega arith))
    ∙ cond-false _ _ _ (ne_eqb ((4096 + 2 * thread + 1 - 4096) % 2) 0 odd)
    ∙ ap Hard half

-- what a word holds is what it was made of
pub server_in-health_word : (mark : Mark) (stamp : ℕ) → IsMark mark
    → server_in (health_word mark stamp) ≡ record { mark = mark; stamp = stamp }
unfolding server_in
server_in-health_word mark stamp is =
    let below = body_of-below mark is in
    let low : (stamp * 8192 + body_of mark) % 8192 ≡ body_of mark = mod-mul-add stamp 8192 (body_of mark) below in
    let high : (stamp * 8192 + body_of mark) / 8192 ≡ stamp = div-mul-add stamp 8192 (body_of mark) below in
    let same : mark_in ((stamp * 8192 + body_of mark) % 8192) ≡ mark = ap mark_in low ∙ mark_in-body_of mark is in
    ap (λ m. let server : ServerState = record { mark = m; stamp = (stamp * 8192 + body_of mark) / 8192 } in server) same
    ∙ ap (λ n. let server : ServerState = record { mark = mark; stamp = n } in server) high

-- the same of any word that is the word of a mark and a stamp
pub server_in_is : (word : ℕ) (mark : Mark) (stamp : ℕ) → IsMark mark → word ≡ health_word mark stamp
    → server_in word ≡ record { mark = mark; stamp = stamp }
server_in_is word mark stamp is e = ap server_in e ∙ server_in-health_word mark stamp is

-- the body of a word, from what it holds
pub body_of-mark_in : (body : ℕ) → body < 8192 → body_of (mark_in body) ≡ body
body_of-mark_in body below =
    elim (cases_Bool (ltb body 4096)) [
      | inl low ↦ ap body_of (cond-true _ _ _ low)
      | inr high ↦
          let above = ltb-false body 4096 high in
          ap body_of (cond-false (ltb body 4096) (Up body) (cond (eqb ((body - 4096) % 2) 0) (Soft ((body - 4096) / 2)) (Hard ((body - 4096) / 2))) high)
          ∙ elim (cases_Bool (eqb ((body - 4096) % 2) 0)) [
            | inl even ↦ ap body_of (cond-true _ _ _ even) ∙ (let is = eqb-true ((body - 4096) % 2) 0 even in omega arith)
            | inr odd ↦ ap body_of (cond-false _ _ _ odd) ∙ (let is = eqb-false ((body - 4096) % 2) 0 odd in omega arith)
          ]
    ]

-- a word and the body that masking leaves of it
pub masked : (word : ℕ) → bit_and word 8191 ≡ word % 8192
masked word = and_mask word 13

pub IsWordIn-body : (layout : Layout) (s : Settings) (word : ℕ) → word < 2 ^ 64
    → IsMarkOf s (mark_in (word % 8192)) × IsMarkIn layout (mark_in (word % 8192)) → IsWordIn layout s word
IsWordIn-body layout s word small allowed =
    let body = body_of-mark_in (word % 8192) (omega arith) in
    record {
      mark = mark_in (word % 8192);
      stamp = word / 8192;
      allowed = allowed.0;
      fits = allowed.1;
      below = shr_below word 51 13 small;
      is = omega (arith, body, div-add-mod' word 8192);
    }

pub body-IsWordIn : (layout : Layout) (s : Settings) (word : ℕ) → IsWordIn layout s word
    → IsMarkOf s (mark_in (word % 8192)) × IsMarkIn layout (mark_in (word % 8192))
unfolding server_in
body-IsWordIn layout s word is =
    let holds = server_in_is word is.mark is.stamp (IsMark-in layout is.mark is.fits) is.is in
    let same : mark_in (word % 8192) ≡ is.mark = ap (λ (server : ServerState). server.mark) holds in
    (subst (IsMarkOf s) (sym same) is.allowed, subst (IsMarkIn layout) (sym same) is.fits)

-- words are one exactly where they hold one mark and one stamp
pub server_in_same : (one other : ℕ) → IsWord one → IsWord other → server_in one ≡ server_in other → one ≡ other
server_in_same one other is are e =
    let held : record { mark = is.mark; stamp = is.stamp } ≡ server_in other =
    sym (server_in_is one is.mark is.stamp is.allowed is.is) ∙ e in
    let both : ServerState = record { mark = is.mark; stamp = is.stamp } in
    let same : both ≡ record { mark = are.mark; stamp = are.stamp } = held ∙ server_in_is other are.mark are.stamp are.allowed are.is in
    is.is ∙ ap (λ (it : ServerState). health_word it.mark it.stamp) same ∙ sym are.is
