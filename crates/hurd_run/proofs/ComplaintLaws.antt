-- What is said of a script.
use Rattle.std.proofs.Common.{◌≡◌, ◌∙◌, ℕ, List, Option, Some, ap, codes, option_and_then, option_map}
use Rattle.hurd_dialogue.specs.Complaints.{complaint_at, complaint_by}
use Rattle.hurd_script.specs.Flaws.{flaw_at, flaw_text}
use Rattle.hurd_script.specs.Script.{bad}
use Rattle.hurd_script.specs.declared.flaw.ScriptFlaw.{ScriptFlaw}
use Rattle.hurd_shell.specs.Scripts.{scripts}

-- what is said where a script is bad at this line, if it is
said_at : List ℕ → Option ℕ → List ℕ
said_at text line = complaint_by (codes ": bad script: ") text line (option_map flaw_text (option_and_then (flaw_at text) line))

pub bad_said : (text : List ℕ) (line : ℕ) (flaw : ScriptFlaw) → bad text ≡ Some line → flaw_at text line ≡ Some flaw
    → scripts.complaint text ≡ complaint_at (codes ": bad script: ") text line (flaw_text flaw)
unfolding said_at
bad_said text line flaw bad is = ap (said_at text) bad ∙ ap (λ (f : Option ScriptFlaw). complaint_by (codes ": bad script: ") text (Some line) (option_map flaw_text f)) is
