-- A request for several keys is handed over, or its reply is taken back: what that is to a client.
use Rattle.std.proofs.Common.{◌≡◌, ℕ, List, [], Some, None, refl, sym, ap, subst, ◌∙◌, arith}
use Rattle.tko_model.proofs.RecordLemmas.{gains_none}
use Rattle.tko_reply.specs.Ghosts.{PartsGhosts}
use Rattle.tko_reply.specs.declared.parts.Parts.{Parts}
use Rattle.tko_keys.specs.KeysState.{IsComplete, awaited_servers}
use Rattle.tko_session.specs.Awaiting.{awaited_in}
use Rattle.tko_session.specs.Clients.{Open, Short}
use Rattle.tko_session.specs.Driven.{IsSessionReady, WasDroppedFrom, dropped}
use Rattle.tko_session.specs.SessionState.{SessionState}
use Rattle.tko_reply.specs.Cuts as cuts
use Rattle.tko_session.specs.Acts as act
use Rattle.tko_session.specs.Driven as driven
use Rattle.tko_session.specs.Working as work
use Rattle.tko_client.specs.declared.answering.Answering.{Answering}
use Rattle.tko_client.specs.declared.calls.Went.{Went}
use Rattle.tko_client.specs.Answerings.{AreKeysReady, AreSettled, IsAnsweringReady, IsClientIdle}
use Rattle.tko_client.specs.Answerings.{IsOwn, MayCallWith, awaited_by_client, awaited_with}
use Rattle.tko_client.specs.Answerings.{client_at}
use Rattle.tko_client.specs.Calls.{IsCalled}
use Rattle.tko_client.specs.Handings.{AreKeysComplete, HasEndedKeys, HasHanded}
use Rattle.tko_client.specs.Staying.{no_change}
use Rattle.tko_client.specs.declared.calls.Went.TheVariants as went
use Rattle.tko_client.specs.Handings as handing
use Rattle.tko_client.specs.Shares.{acted}
use Rattle.tko_client.proofs.AskLemmas.{same_asking}
use Rattle.tko_client.proofs.SessionStandsLemmas.{between_ready, goes_none, idle_none, session_asks}
use Rattle.tko_client.proofs.SessionStandsLemmas.{session_awaits, session_left, short_left}
use Rattle.tko_client.proofs.KeysStandLemmas.{new_settled}

module _ {H T C : Type 0} (ghosts : PartsGhosts H (List ℕ) T C) (servers : H → ℕ) where
  -- a request for several keys was handed over, or dropped
  pub handed_called : (came : Went) (old new : Answering) (parts : Parts H (List ℕ) T C)
      → IsAnsweringReady parts.config old → IsClientIdle old → HasHanded came old new
      → IsCalled ghosts servers came (old, parts) (new, parts)
  handed_called came old new parts ready idle
      (handing.taken request keys several hands begins same is) =
      let none = idle_none old idle in
      let keyed : new.keys ≡ Some keys = ap (λ (it : Answering). it.keys) same in
      let at : new.session.work ≡ work.HandedOver = ap (λ (s : SessionState). s.work) hands.state in
      let read = subst (driven.IsReadyFor parts.config old.session) hands.at ready.session in
      let nobody : awaited_by_client old ≡ [] =
      session_awaits old None none.0 (goes_none old.session.work none.1) in
      let empty : awaited_by_client new ≡ [] = ap (λ k. awaited_with k new.session.work) keyed
      ∙ ap awaited_servers begins.is in
      let begun : AreSettled parts.config keys =
      new_settled parts.config request old.plan keys (omega (arith, several)) begins in
      subst (λ w. IsCalled ghosts servers w (old, parts) (new, parts)) (sym is) (record {
        gone = acted [] (
          act.handed request keys refl several hands begins refl (ap (client_at Open) same),
          gains_none parts,
        );
        asks = same_asking (awaited_by_client old) (awaited_by_client new) (empty ∙ sym nobody);
        left = record {
          request = tt;
          stands = subst (λ k. MayCallWith k new.session.work) (sym keyed) tt;
          reading = tt;
          ready = record {
            session = subst (λ (s : SessionState). IsSessionReady parts.config s)
                (sym hands.state) read.begins;
            keys = subst (λ k. AreKeysReady parts.config k new.session.work) (sym keyed)
                (at, begun);
          };
          stays = no_change;
        };
      })
  handed_called came old new parts ready idle (handing.refused request mid hands same is) =
      let none = idle_none old idle in
      let session : new.session ≡ dropped old.session = ap (λ (it : Answering). it.session) same
      ∙ ap dropped hands.state in
      let between : new.session.work ≡ work.Between = ap (λ (s : SessionState). s.work) session in
      let without : new.keys ≡ None = ap (λ (it : Answering). it.keys) same ∙ none.0 in
      let lost : WasDroppedFrom parts.config old.session.work old.session [] [] new.session =
      subst (λ w. WasDroppedFrom parts.config w old.session [] [] new.session) (sym hands.at)
      (driven.unkeyed (cuts.nothing refl) refl session) in
      subst (λ w. IsCalled ghosts servers w (old, parts) (new, parts)) (sym is) (record {
        gone = acted [] (
          act.lost [] refl refl (act.went [] [] lost refl)
              (ap (client_at Short) same
              ∙ ap (λ s. client_at Short (record old { session = s }))
              (sym (ap (λ (it : Answering). it.session) same))),
          gains_none parts,
        );
        asks = session_asks old new None none.0 (goes_none old.session.work none.1) without
            (ap awaited_in between);
        left = short_left old new parts parts without between
            (between_ready parts.config new.session between) no_change;
      })

  -- the reply of a request whose keys are complete was taken, or it was dropped
  pub ended_called : (came : Went) (old new : Answering) (parts : Parts H (List ℕ) T C)
      → IsAnsweringReady parts.config old → AreKeysComplete old → awaited_by_client old ≡ []
      → HasEndedKeys came old new → IsCalled ghosts servers came (old, parts) (new, parts)
  ended_called came old new parts ready complete nobody (handing.replied keys are lost same is) =
      let keys_same : complete.keys ≡ keys =
      (let both : Some complete.keys ≡ Some keys = sym complete.are ∙ are in cc) in
      let over : IsComplete keys = subst IsComplete keys_same complete.complete in
      let has : act.HasKeys (client_at Open old) keys =
      record { going = refl; at = complete.handed.at; are = are } in
      let without : new.keys ≡ None = ap (λ (it : Answering). it.keys) same in
      let between : new.session.work ≡ work.Between =
      ap (λ (it : Answering). it.session.work) same in
      let empty : awaited_by_client new ≡ [] =
      session_awaits new None without (ap awaited_in between) in
      subst (λ w. IsCalled ghosts servers w (old, parts) (new, parts)) (sym is) (record {
        gone = acted []
            (act.replied keys has over lost refl (ap (client_at Open) same), gains_none parts);
        asks = same_asking (awaited_by_client old) (awaited_by_client new) (empty ∙ sym nobody);
        left = session_left went.On old new parts parts without
            (record {
              asks = ap awaited_in between;
              own = subst IsOwn (sym between) tt;
              goes = tt;
              reading = tt;
            })
            (record { ready = between_ready parts.config new.session between; stays = no_change });
      })
  ended_called came old new parts ready complete nobody (handing.lost keys are same is) =
      let keys_same : complete.keys ≡ keys =
      (let both : Some complete.keys ≡ Some keys = sym complete.are ∙ are in cc) in
      let over : IsComplete keys = subst IsComplete keys_same complete.complete in
      let has : act.HasKeys (client_at Open old) keys =
      record { going = refl; at = complete.handed.at; are = are } in
      let without : new.keys ≡ None = ap (λ (it : Answering). it.keys) same in
      let between : new.session.work ≡ work.Between =
      ap (λ (it : Answering). it.session.work) same in
      let empty : awaited_by_client new ≡ [] =
      session_awaits new None without (ap awaited_in between) in
      subst (λ w. IsCalled ghosts servers w (old, parts) (new, parts)) (sym is) (record {
        gone = acted []
            (act.keys_lost keys has over refl (ap (client_at Short) same), gains_none parts);
        asks = same_asking (awaited_by_client old) (awaited_by_client new) (empty ∙ sym nobody);
        left = short_left old new parts parts without between
            (between_ready parts.config new.session between) no_change;
      })
