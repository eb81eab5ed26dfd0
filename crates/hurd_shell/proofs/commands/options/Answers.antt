use Rattle.std.proofs.Common.{◌∙◌, sym}
use Rattle.hurd_shell.proofs.CommandLaws.{options_given, options_shown}
use Rattle.hurd_shell.proofs.commands.options.Goals as goal

pub returns-then-has_any : goal.returns-then-has_any
returns-then-has_any g c = rw (options_given _ c.args.control (sym c.has_any.ensures ∙ c.if-has_any.true)) c.set_options.ensures

pub returns-else-has_any : goal.returns-else-has_any
returns-else-has_any g c = rw (options_shown _ c.args.control (sym c.has_any.ensures ∙ c.if-has_any.false)) c.show_options.ensures
