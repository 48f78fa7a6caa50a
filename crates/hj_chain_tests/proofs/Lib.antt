mod FirstRow
mod SilentSide
mod TwoRows
