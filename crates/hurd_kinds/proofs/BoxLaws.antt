-- What boxes of a known kind mean.
use Rattle.std.proofs.Common.{◌≡◌, ◌∙◌, ap, subst, sym}
use Rattle.std.specs.Prelude.{Result}
use Rattle.hurd_creds.specs.Memory.{Steps}
use Rattle.hurd_creds.specs.declared.errno.Errno.{Errno}
use Rattle.hurd_creds.specs.declared.name.Name.{Name}
use Rattle.hurd_trans_iface.specs.declared.header_edit.HeaderEdit.{HeaderEdit}
use Rattle.hurd_trans_iface.specs.Meaning.{Meaning, edit_header_step}

-- an edit of a header by the server in a box is one by the box
pub edited_as : {whole part after : Meaning} (n : Name) (e : HeaderEdit) {got : Result (Unit {0}) Errno} → whole ≡ part → (got, after) ≡ edit_header_step n e part → (got, after) ≡ edit_header_step n e whole
edited_as n e same edited = edited ∙ ap (λ (m : Meaning). edit_header_step n e m) (sym same)

-- a call that the server in a box answers is one that the box answers
pub stepped_as : {T : Type 0} {whole part after : Meaning} {got : Result T Errno} (step : Meaning → Result T Errno × Meaning)
    → whole ≡ part → Steps part (step part) got after → Steps whole (step whole) got after
stepped_as {after = after} {got = got} step same steps = subst (λ (m : Meaning). Steps m (step m) got after) (sym same) steps

-- what is known of the meaning of the server in a box is known of the box's
pub known_as : {whole part : Meaning} (P : Meaning → Type 0) → whole ≡ part → P part → P whole
known_as P same known = subst P (sym same) known
