-- Laws of scripted links.
use Rattle.std.proofs.Common.{◌≡◌, ℕ, List, [], ◌∷◌, ◌++◌, length, flat_map, drop, ap, subst, sym, ◌∙◌, append-nil, arith}
use Rattle.std.proofs.lemmas.Grind.{common_steps}
use Rattle.tko_model.specs.Records.{Gains, Lead}
use Rattle.tko_links.specs.declared.scripted.Script.{Script}
use Rattle.tko_links.specs.Links.{LinksItem}
use Rattle.tko_links.specs.Scripted.{GiveInOrder, IsPlayed, IsScriptReplay, ScriptedState, probes_after, probes_after_all, request_texts_in, sends_after, sends_after_all}

drop_more : (scripts : List Script) (it : LinksItem) (items : List LinksItem)
    → drop (length items) (drop 1 scripts) ≡ drop (length (it ∷ items)) scripts
drop_more scripts it items = grind (arith, common_steps)

regroup : (requests : List (List ℕ)) (it : LinksItem) (items : List LinksItem)
    → (requests ++ request_texts_in it) ++ flat_map request_texts_in items
    ≡ requests ++ flat_map request_texts_in (it ∷ items)
regroup requests it items = grind (arith, common_steps)

replay : (old new : ScriptedState) (items : List LinksItem) → Lead IsPlayed old items new → IsScriptReplay old items new
replay old new [] e =
    record {
      outcomes = tt;
      scripts = ap (λ (at : ScriptedState). at.scripts) e;
      sends = ap (λ (at : ScriptedState). at.sends) e;
      probes = ap (λ (at : ScriptedState). at.probes) e;
      requests = ap (λ (at : ScriptedState). at.requests) e ∙ sym (append-nil old.requests);
    }
replay old new (it ∷ items) (mid, step, rest) =
    let behind = replay mid new items rest in
    let scripts : mid.scripts ≡ drop 1 old.scripts = ap (λ (at : ScriptedState). at.scripts) step.state in
    let sends : mid.sends ≡ sends_after old.sends it = ap (λ (at : ScriptedState). at.sends) step.state in
    let probes : mid.probes ≡ probes_after old.probes it = ap (λ (at : ScriptedState). at.probes) step.state in
    let requests : mid.requests ≡ old.requests ++ request_texts_in it =
    ap (λ (at : ScriptedState). at.requests) step.state in
    record {
      outcomes = (step.outcome, subst (λ (left : List Script). GiveInOrder left items) scripts behind.outcomes);
      sends = behind.sends ∙ ap (λ (counts : List ℕ). sends_after_all counts items) sends;
      probes = behind.probes ∙ ap (λ (counts : List ℕ). probes_after_all counts items) probes;
      scripts =
          behind.scripts ∙ ap (λ (left : List Script). drop (length items) left) scripts ∙ drop_more old.scripts it items;
      requests =
          behind.requests
          ∙ ap (λ (kept : List (List ℕ)). kept ++ flat_map request_texts_in items) requests
          ∙ regroup old.requests it items;
    }

-- a record of scripted links plays the scripts
pub script_replay : (old new : ScriptedState) (items : List LinksItem) → Gains IsPlayed old items new → IsScriptReplay old items new
script_replay old new items gains = replay old new items gains.leads
