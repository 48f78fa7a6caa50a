-- The notes on standard error, one line for each outcome but success.
use Rattle.std.specs.Prelude.{ℕ, List, [], ◌++◌, codes, None, Some}
use Rattle.std.specs.Fmt.{decimal, signed_decimal}
use Rattle.hj_base.specs.declared.numbers.Side.{Side}
use Rattle.hj_base.specs.declared.numbers.Side.TheVariants as side
use Rattle.hj_base.specs.declared.outside.Role.{Role}
use Rattle.hj_base.specs.declared.outside.Role.TheVariants as role
use Rattle.hj_lex.specs.declared.fault.LexFault.{LexFault}
use Rattle.hj_lex.specs.declared.fault.LexFault.TheVariants as lex
use Rattle.hj_query.specs.declared.fault.QueryFault.{QueryFault}
use Rattle.hj_query.specs.declared.fault.QueryFault.TheVariants as query
use Rattle.hj_query.specs.declared.fault.Wanted.{Wanted}
use Rattle.hj_query.specs.declared.fault.Wanted.TheVariants as wanted
use Rattle.std.specs.declared.option.Option.{Option}
use Rattle.hj_record.specs.declared.fault.PieceFault.{PieceFault}
use Rattle.hj_record.specs.declared.fault.PieceFault.TheVariants as piece
use Rattle.hj_event.specs.declared.schema.fault.RowFault.{RowFault}
use Rattle.hj_event.specs.declared.schema.fault.RowFault.TheVariants as row
use Rattle.hj_event.specs.declared.fault.RecordFault.{RecordFault}
use Rattle.hj_event.specs.declared.fault.RecordFault.TheVariants as fault

abbrev pub usage_note : List ℕ
usage_note = codes "usage: equi W LEFT RIGHT"
    ++ codes " | join [--cores N] [--threads N] [--flight N] [--max-events N] [--schedule SEED] QUERY LEFT RIGHT"
    ++ codes " | check QUERY"
    ++ codes " | gen N KEYS SEED W"
    ++ codes " | raw [--cores N] [--threads N] [--flight N] [--max-events N] QUERY LEFT RIGHT"
    ++ codes " | trace [--cores N] [--flight N] [--max-events N] [--schedule SEED] QUERY LEFT RIGHT"
    ++ codes " | verify [--cores N] [--flight N] [--max-events N] QUERY LEFT RIGHT TRACE OUTPUT"
    ++ codes " | twice [--cores N] [--threads N] [--flight N] [--max-events N] [--schedule SEED] QUERY LEFT RIGHT QUERY THIRD"
    ++ codes "\n"

abbrev pub side_name : Side → List ℕ
side_name side.Left = codes "left"
side_name side.Right = codes "right"

abbrev pub role_name : Role → List ℕ
role_name role.Query = codes "query"
role_name role.SecondQuery = codes "second query"
role_name role.Left = codes "left"
role_name role.Right = codes "right"
role_name role.Third = codes "third"
role_name role.Trace = codes "trace"
role_name role.Output = codes "output"

abbrev pub source_note : Role → List ℕ
source_note of = codes "source: " ++ role_name of ++ codes "\n"

abbrev pub sink_note : List ℕ
sink_note = codes "sink\n"

abbrev pub memory_note : List ℕ
memory_note = codes "memory\n"

-- There would be one event more than the limit.
abbrev pub events_note : ℕ → List ℕ
events_note limit = codes "events: limit " ++ decimal limit ++ codes "\n"

abbrev pub piece_text : PieceFault → List ℕ
piece_text piece.OpenQuote = codes "OpenQuote"
piece_text piece.NotOneRecord = codes "NotOneRecord"
piece_text piece.TooLong = codes "TooLong"
piece_text piece.StreamLong = codes "StreamLong"
piece_text piece.Memory = codes "Memory"

abbrev pub row_text : RowFault → List ℕ
row_text (row.FieldCount found) = codes "FieldCount " ++ decimal found
row_text (row.NotNumber column) = codes "NotNumber column " ++ decimal column
row_text (row.NumberRange column) = codes "NumberRange column " ++ decimal column
row_text (row.NotText column) = codes "NotText column " ++ decimal column
row_text row.Memory = codes "Memory"

abbrev pub fault_text : RecordFault → List ℕ
fault_text (fault.Piece found) = piece_text found
fault_text (fault.Row found) = row_text found
fault_text (fault.TimeBack before found) = codes "TimeBack " ++ signed_decimal before ++ codes " " ++ signed_decimal found

-- A bad record: the name of its stream, its number from 1, and its fault.
abbrev pub stream_note : List ℕ → ℕ → RecordFault → List ℕ
stream_note stream at found = stream ++ codes " record " ++ decimal at ++ codes ": " ++ fault_text found ++ codes "\n"

-- one of a side
abbrev pub record_note : Side → ℕ → RecordFault → List ℕ
record_note of at found = stream_note (side_name of) at found

-- What a query text has to go on with, by its name.
abbrev pub wanted_text : Wanted → List ℕ
wanted_text wanted.LeftWord = codes "LeftWord"
wanted_text wanted.RightWord = codes "RightWord"
wanted_text wanted.OpenParen = codes "OpenParen"
wanted_text wanted.CommaOrClose = codes "CommaOrClose"
wanted_text wanted.ColumnName = codes "ColumnName"
wanted_text wanted.ColumnKind = codes "ColumnKind"
wanted_text wanted.WindowWord = codes "WindowWord"
wanted_text wanted.WindowSide = codes "WindowSide"
wanted_text wanted.WindowKind = codes "WindowKind"
wanted_text wanted.Number = codes "Number"
wanted_text wanted.OnWord = codes "OnWord"
wanted_text wanted.OfWord = codes "OfWord"
wanted_text wanted.Dot = codes "Dot"
wanted_text wanted.Term = codes "Term"
wanted_text wanted.Comparison = codes "Comparison"
wanted_text wanted.CloseParen = codes "CloseParen"
wanted_text wanted.End = codes "End"

-- A fault of a query text, by its name.

abbrev pub lex_text : LexFault → List ℕ
lex_text (lex.BadByte place) = codes "BadByte"
lex_text (lex.OpenText place) = codes "OpenText"
lex_text (lex.NumberRange place) = codes "NumberRange"
lex_text lex.Memory = codes "Memory"

abbrev pub query_text : QueryFault → List ℕ
query_text (query.Lex found) = lex_text found
query_text (query.Expected what place) = codes "Expected " ++ wanted_text what
query_text (query.DoubleColumn place) = codes "DoubleColumn"
query_text (query.UnknownColumn place) = codes "UnknownColumn"
query_text (query.Types place) = codes "Types"
query_text (query.FirstColumn place) = codes "FirstColumn"
query_text (query.WindowRange place) = codes "WindowRange"
query_text (query.SlackRange place) = codes "SlackRange"
query_text (query.QuietRange place) = codes "QuietRange"
query_text (query.TooDeep place) = codes "TooDeep"
query_text (query.TooManyColumns place) = codes "TooManyColumns"
query_text query.TooLong = codes "TooLong"
query_text query.Memory = codes "Memory"

-- The place of a fault, where it has one.

abbrev pub lex_place : LexFault → Option ℕ
lex_place (lex.BadByte place) = Some place
lex_place (lex.OpenText place) = Some place
lex_place (lex.NumberRange place) = Some place
lex_place lex.Memory = None

abbrev pub query_place : QueryFault → Option ℕ
query_place (query.Lex found) = lex_place found
query_place (query.Expected what place) = Some place
query_place (query.DoubleColumn place) = Some place
query_place (query.UnknownColumn place) = Some place
query_place (query.Types place) = Some place
query_place (query.FirstColumn place) = Some place
query_place (query.WindowRange place) = Some place
query_place (query.SlackRange place) = Some place
query_place (query.QuietRange place) = Some place
query_place (query.TooDeep place) = Some place
query_place (query.TooManyColumns place) = Some place
query_place query.TooLong = None
query_place query.Memory = None

abbrev pub place_text : Option ℕ → List ℕ
place_text None = []
place_text (Some place) = codes " at " ++ decimal place

-- A refused query: its name, its first fault and the fault's place.
abbrev pub refused_note : List ℕ → QueryFault → List ℕ
refused_note name found = name ++ codes ": " ++ query_text found ++ place_text (query_place found) ++ codes "\n"

-- the one of a run with one query, or the first of two
abbrev pub query_note : QueryFault → List ℕ
query_note found = refused_note (role_name role.Query) found
