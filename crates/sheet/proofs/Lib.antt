mod Serving
mod Calling
mod Settling
mod Making
