-- The number that refuses the texts, and the block that is put. Assumes nothing.
use Rattle.register.proofs.Making.{panel_refused, panel_put}
use Rattle.register.proofs.panel.Goals as goal

pub returns-in_err-panel_refusal : goal.returns-in_err-panel_refusal
returns-in_err-panel_refusal c = panel_refused c.args.service.now c.args.callback.now c.args.block.now c.from_residual.result c.in_err-panel_refusal.field-0.0 c.from_residual.ensures.1 c.in_err-panel_refusal.ensures

pub returns : goal.returns
returns c = panel_put c.args.service.now c.args.callback.now c.args.block.now c.in_ok-panel_refusal.ensures c.put_entry.new.b c.put_entry.ensures
