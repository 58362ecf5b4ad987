-- "The reader keeps the script and its place".
use Rattle.script.specs.declared.Reader.{Reader}
use Rattle.script.specs.declared.Reading.{Reading}
use Rattle.script.specs.Records.{next_at, place_after}

-- what stands at its place
abbrev pub reader_next : Reader → Reading
reader_next reader = next_at reader.script.now reader.place

-- the reader after the record at its place
abbrev pub advanced_reader : Reader → Reader
advanced_reader reader = record { script = reader.script; place = place_after (reader_next reader) reader.place }
