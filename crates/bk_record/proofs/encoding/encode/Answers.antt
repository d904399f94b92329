use Rattle.std.proofs.Common.{◌≡◌}
use Rattle.bk_laws.specs.Record.{checksum_of}
use Rattle.bk_record.proofs.Records.{checksum_by_parts, record_by_parts}
use Rattle.bk_record.proofs.encoding.encode.Goals as goal

pub returns-clause-ok : goal.returns-clause-ok
returns-clause-ok c =
    let w = c.args.write.now in
    let crc : c.end.result ≡ checksum_of w =
    rw (
      c.end.ensures,
      c.add-3.ensures,
      c.add-2.ensures,
      c.add.ensures,
      c.new-check.ensures,
      c.fields-fields.ensures.fields,
      c.bytes-key.ensures.value,
      c.value_bytes-value.ensures,
    ) (checksum_by_parts w) in
    rw (
      c.in_ok-extend_from_slice-4.ensures.items,
      c.in_ok-extend_from_slice-3.ensures.items,
      c.in_ok-extend_from_slice-2.ensures.items,
      c.in_ok-extend_from_slice.ensures.items,
      c.in_ok-reserve.ensures.items,
      c.to_be_bytes.ensures,
      crc,
      c.fields-fields.ensures.fields,
      c.bytes-key.ensures.value,
      c.value_bytes-value.ensures,
    )
    (record_by_parts w c.args.out.now.items)
