use Rattle.std.proofs.Common.{refl}
use Rattle.bk_laws.specs.Record.{fields_of}
use Rattle.bk_record.proofs.header.fields.Goals as goal

pub returns-clause-fields : goal.returns-clause-fields
unfolding fields_of
returns-clause-fields c =
    rw (
      c.to_be_bytes.ensures,
      c.to_be_bytes-2.ensures,
      c.to_be_bytes-3.ensures,
      c.to_be_bytes-4.ensures,
      c.value_length_field.ensures.field,
      c.bytes.ensures.value,
    ) refl
