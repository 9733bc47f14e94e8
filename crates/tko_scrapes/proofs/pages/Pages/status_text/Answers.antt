use Rattle.std.proofs.lemmas.Result.{IfOk-weaker}
use Rattle.tko_scrapes.proofs.pages.Pages.status_text.Goals as goal

pub returns : goal.returns
returns c = IfOk-weaker c.text.result _ _
    (λ text is. record {
      page = c.in_ok-status_page.field-0;
      shows = c.in_ok-status_page.ensures;
      is = is;
    })
    c.text.ensures
