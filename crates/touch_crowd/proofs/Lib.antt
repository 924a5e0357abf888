mod TouchOf
mod Apart
