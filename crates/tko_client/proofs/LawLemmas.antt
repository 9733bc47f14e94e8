-- What is done with a client is one session's life.
use Rattle.std.proofs.Common.{◌≡◌, ℕ, List, [], ◌∷◌, ◌++◌, take, refl, sym, ap, subst, ◌∙◌}
use Rattle.std.proofs.Common.{append_assoc, append-nil}
use Rattle.std.specs.Prelude.{flat_map}
use Rattle.tko_model.specs.Records.{Gains, Lead}
use Rattle.tko_pools.specs.Configs.{Configuration}
use Rattle.tko_reply.specs.Ghosts.{PartsGhosts}
use Rattle.tko_reply.specs.Interactions.{Interaction}
use Rattle.tko_keys.specs.declared.plan.KeyPlan.{KeyPlan}
use Rattle.tko_session.specs.Acts.{IsAct, came_to}
use Rattle.tko_session.specs.Clients.{ClientState, IsClient, Life, life, lived, new_client, no_life}
use Rattle.tko_session.proofs.ActLemmas.{acted}
use Rattle.tko_session.proofs.LifeLemmas.{begins}
use Rattle.tko_port.specs.Talks.{Dropped, Ended, Fed, NotFed, Sent, TalkItem, Took, Went}
use Rattle.tko_client.specs.Comings.{result_of}
use Rattle.tko_client.specs.Clients.{DoesAs}
use Rattle.tko_client.specs.Clients.{by_keys, by_session}
use Rattle.tko_client.specs.Clients.{HasLife, IsOwnTalk, bytes_in}
use Rattle.tko_client.specs.Keys.{came_by}
use Rattle.tko_client.specs.Shares.{ActsWithoutBytes, ClientCall, ClientOver, IsCallWithCost}

-- the bytes that a call gives to the client
abbrev pub bytes_out : TalkItem → ClientState → List ℕ
bytes_out (Sent count) old = take count old.session.outbox
bytes_out (Fed bytes) old = []
bytes_out (Went asked) old = []
bytes_out Dropped old = []
bytes_out NotFed old = []
bytes_out Ended old = []
bytes_out (Took server came asked) old = []

-- a life that goes on with this one, in which these bytes came too, and these went
pub record Grows (config : Configuration) (it : Life) (bytes text : List ℕ)
    (now : ClientState) : Type 0
  where
    pub more : Life
    pub is : IsClient config more now
    pub from : more.bytes ≡ it.bytes ++ bytes
    pub to : more.sent ≡ it.sent ++ text

-- the same, whatever went
record Takes (config : Configuration) (it : Life) (bytes : List ℕ)
    (now : ClientState) : Type 0 where
  more : Life
  is : IsClient config more now
  from : more.bytes ≡ it.bytes ++ bytes

module _ {H T C : Type 0} (ghosts : PartsGhosts H (List ℕ) T C) (config : Configuration) where
  stays_so : (it : Life) (old new : ClientOver H T C) → IsClient config it old.0 → new ≡ old
      → Grows config it [] [] new.0
  stays_so it old new is same = record {
    more = it;
    is = subst (λ (c : ClientOver H T C). IsClient config it c.0) (sym same) is;
    from = sym (append-nil it.bytes);
    to = sym (append-nil it.sent);
  }

  one_act : (it adds : Life) (old new : ClientState) → IsClient config it old
      → IsAct config old adds new → Grows config it adds.bytes adds.sent new
  one_act it adds old new is act =
      record {
        more = lived it adds;
        is = acted config it old adds new is act;
        from = refl;
        to = refl;
      }

  gone_life : (it : Life) (old : ClientOver H T C) (calls : List (List Interaction))
      (new : ClientOver H T C) → IsClient config it old.0
      → Lead (ActsWithoutBytes ghosts config) old calls new → Grows config it [] [] new.0
  gone_life it old [] new is same = stays_so it old new is same
  gone_life it old (done ∷ calls) new is (mid, step, rest) =
      let grown = gone_life (lived it (life [] [] done)) mid calls new
      (acted config it old.0 (life [] [] done) mid.0 is step.0) rest in record {
        more = grown.more;
        is = grown.is;
        from = grown.from ∙ append-nil (it.bytes ++ []);
        to = grown.to ∙ append-nil (it.sent ++ []);
      }

  calls_life : (it : Life) (old : ClientOver H T C) (calls : List ClientCall)
      (new : ClientOver H T C) → IsClient config it old.0
      → Lead (IsCallWithCost ghosts config) old calls new → Grows config it [] [] new.0
  calls_life it old [] new is same = stays_so it old new is same
  calls_life it old (call ∷ calls) new is (mid, step, rest) =
      let grown = calls_life (lived it (life [] [] call.done)) mid calls new
      (acted config it old.0 (life [] [] call.done) mid.0 is step.act.0) rest in record {
        more = grown.more;
        is = grown.is;
        from = grown.from ∙ append-nil (it.bytes ++ []);
        to = grown.to ∙ append-nil (it.sent ++ []);
      }

  pub did : (it : Life) (old new : ClientOver H T C) (item : TalkItem) → old.1.config ≡ config
      → IsClient config it old.0 → DoesAs ghosts item old new
      → Grows config it (bytes_in item) (bytes_out item old.0) new.0
  did it old new (Went asked) same is gone =
      calls_life it old gone.calls new is
      (subst (λ c. Lead (IsCallWithCost ghosts c) old gone.calls new) same gone.gains.leads)
  did it old new Dropped same is (gone, short) =
      calls_life it old gone.calls new is
      (subst (λ c. Lead (IsCallWithCost ghosts c) old gone.calls new) same gone.gains.leads)
  did it old new (Fed bytes) same is act =
      one_act it (life bytes [] []) old.0 new.0 is
      (subst (λ c. IsAct c old.0 (life bytes [] []) new.0) same act.0)
  did it old new NotFed same is kept = stays_so it old new is kept
  did it old new Ended same is kept = stays_so it old new is kept
  did it old new (Sent count) same is act =
      let adds : Life = life [] (take count old.0.session.outbox) [] in
      one_act it adds old.0 new.0 is (subst (λ c. IsAct c old.0 adds new.0) same act.0)
  did it old new (Took server came asked) same is (by_session none taken) =
      let adds : Life = life [] [] (came_to taken.it (result_of came) ∷ taken.then) in
      one_act it adds old.0 new.0 is (subst (λ c. IsAct c old.0 adds new.0) same taken.act.0)
  did it old new (Took server came asked) same is (by_keys taken) =
      let calls = (came_by (result_of came) taken.keys.slots taken.send ++ taken.then)
      ∷ taken.calls in
      gone_life it old calls new is
      (subst (λ c. Lead (ActsWithoutBytes ghosts c) old calls new) same taken.gains.leads)

  talked : (it : Life) (old : ClientState) (items : List TalkItem) (new : ClientState)
      → IsClient config it old → Lead (IsOwnTalk ghosts config) old items new
      → Takes config it (flat_map bytes_in items) new
  talked it old [] new is same =
      record {
        more = it;
        is = subst (IsClient config it) (sym same) is;
        from = sym (append-nil it.bytes);
      }
  talked it old (item ∷ items) new is (mid, talk, rest) =
      let first = did it (old, talk.before) (mid, talk.after) item talk.same is talk.does in
      let grown = talked first.more mid items new first.is rest in record {
        more = grown.more;
        is = grown.is;
        from = grown.from ∙ ap (λ bytes. bytes ++ flat_map bytes_in items) first.from
            ∙ append_assoc it.bytes (bytes_in item) (flat_map bytes_in items);
      }

  pub has_life : (plan : KeyPlan) (items : List TalkItem) (now : ClientState)
      → Gains (IsOwnTalk ghosts config) (new_client plan) items now → HasLife config items now
  has_life plan items now gains =
      let grown = talked no_life (new_client plan) items now (begins plan config) gains.leads in
      record { it = grown.more; is = grown.is; bytes = grown.from }
