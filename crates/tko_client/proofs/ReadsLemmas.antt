-- What a session reads after a call of it.
use Rattle.std.proofs.Common.{◌≡◌, List, sym, subst}
use Rattle.tko_links.specs.declared.links.Outcome.{Outcome}
use Rattle.tko_pools.specs.Configs.{Configuration}
use Rattle.tko_route.specs.Calls.{RoutedCall}
use Rattle.tko_route.specs.declared.routing.Stage.{Stage}
use Rattle.tko_reply.specs.Standing.{SentKey}
use Rattle.tko_session.specs.Driven.{OutcomeTaken, WentOn, WentOnFrom, step_of}
use Rattle.tko_session.specs.SessionState.{ProgressIs, SessionState, progress_after, progress_of}
use Rattle.tko_session.proofs.TurnLemmas.{fault_progress, request_progress}
use Rattle.tko_text.specs.Reading.{Reading}
use Rattle.tko_text.specs.declared.item.Item.{Item}
use Rattle.tko_session.specs.Working.{Work}
use Rattle.tko_session.specs.declared.step.Progress.{Progress}
use Rattle.tko_session.specs.declared.step.Step.{Step}
use Rattle.tko_route.specs.declared.routing.Stage.TheVariants as stage
use Rattle.tko_session.specs.Driven as driven
use Rattle.tko_session.specs.Working as work
use Rattle.tko_session.specs.declared.step.Progress.TheVariants as progress
use Rattle.tko_session.specs.declared.step.Step.TheVariants as step
use Rattle.tko_client.specs.Steps.{WentReading, went_from, went_of}

progress_reading : (at : Progress) (items : List Item) (reading : Reading)
    → ProgressIs at items reading → WentReading (went_of at) reading
progress_reading progress.More items reading is = tt
progress_reading progress.NeedsInput items reading is = tt
progress_reading progress.LineTooLong items reading is = is.1
progress_reading progress.Quit items reading is = tt

said_reading : {said : Step} (at : Progress) (reading : Reading) → said ≡ step.At at
    → WentReading (went_of at) reading → WentReading (went_from said) reading
said_reading at reading is fits = subst (λ s. WentReading (went_from s) reading) (sym is) fits

stage_reading : {said : Step} (at : Stage) (reading : Reading) → said ≡ step_of at
    → WentReading (went_from said) reading
stage_reading (stage.Away clear awaited) reading is =
    subst (λ s. WentReading (went_from s) reading) (sym is) tt
stage_reading (stage.Done trail) reading is =
    subst (λ s. WentReading (went_from s) reading) (sym is) tt

module _ (config : Configuration) where
  reads_from : (at : Work) (old : SessionState) (calls : List RoutedCall) (said : Step)
      (new : SessionState) → WentOnFrom config at old calls said new
      → WentReading (went_from said) new.reading
  reads_from work.Between old calls said new (none, driven.none needs says same) =
      said_reading progress.NeedsInput new.reading says tt
  reads_from work.Between old calls said new (none, driven.refused fault emits says same) =
      subst (λ s. WentReading (went_from s) new.reading) (sym says)
      (progress_reading (progress_after fault) _ new.reading
      (fault_progress fault old.reading new.reading emits))
  reads_from work.Between old calls said new (none, driven.asked it emits says same) =
      subst (λ s. WentReading (went_from s) new.reading) (sym says) tt
  reads_from (work.Read one) old calls said new (driven.itself text looks answers are says same) =
      said_reading (progress_of one.request) new.reading says
      (progress_reading (progress_of one.request) _ new.reading
      (request_progress one.request new.reading))
  reads_from (work.Read one) old calls said new (driven.by_key other first begun) =
      stage_reading begun.at new.reading begun.says
  reads_from (work.Awaits it) old calls said new never = absurd never
  reads_from work.HandedOver old calls said new never = absurd never
  reads_from (work.Ended one) old calls said new (driven.over continues none says same) =
      said_reading progress.More new.reading says tt
  reads_from (work.Ended one) old calls said new (driven.next other continues begun) =
      stage_reading begun.at new.reading begun.says

  -- what the session reads after a call that said this
  pub went_reads : (old : SessionState) (calls : List RoutedCall) (said : Step) (new : SessionState)
      → WentOn config old calls said new → WentReading (went_from said) new.reading
  went_reads old calls said new on = reads_from old.work old calls said new on

  pub took_reads : (it : SentKey) (outcome : Outcome) (old : SessionState) (calls : List RoutedCall)
      (said : Step) (new : SessionState) → OutcomeTaken config it outcome old calls said new
      → WentReading (went_from said) new.reading
  took_reads it outcome old calls said new is = stage_reading is.at new.reading is.says
