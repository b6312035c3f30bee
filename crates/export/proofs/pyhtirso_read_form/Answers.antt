-- The call of signon, or nothing.
use Rattle.export.proofs.Laws.{form_none, form_some}
use Rattle.export.proofs.pyhtirso_read_form.Goals as goal

pub returns-then-form-ne3 : goal.returns-then-form-ne3
returns-then-form-ne3 c = search form_none

pub returns : goal.returns
returns c = search form_some
